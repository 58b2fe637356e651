-- Sequences of steps (own).

-- zero or more steps from a state
pub data Run {A : Type 0} (Step : A → A → Type 0) (start : A) : A → Type 0 where
  Start : Run Step start start
  Then : {middle last : A} → Run Step start middle → Step middle last → Run Step start last
