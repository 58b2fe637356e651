pub mod WitnessAddress
