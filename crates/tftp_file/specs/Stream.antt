-- The model of a source over a reader and of a sink over a writer, if the bytes of those are known.
use Rattle.std.specs.Prelude.{ℕ, ◌≡◌, Bool, false, List, [], ◌++◌, length, Option, option_to_list}
use Rattle.std.specs.Prelude.{option_map, Result, Ok, Err}
use Rattle.std.specs.Io.KnownBytes.{Consumes, Appends as Grows}
use Rattle.tftp_file.specs.declared.fault.StoreFault.{StoreFault}
use Rattle.tftp_file.specs.declared.encoding.Encoding.{Encoding}
use Rattle.tftp_file.specs.declared.encoding.Encoding.TheVariants.{Octet, Netascii}
use Rattle.tftp_file.specs.declared.stream.ReadSource.{ReadSource}
use Rattle.tftp_file.specs.declared.stream.WriteSink.{WriteSink}
use Rattle.tftp_file.specs.Block.{IsPrefixOf}
use Rattle.tftp_file.specs.Encoding.{text_left}
use Rattle.tftp_file.specs.Sink.{Holding}

-- the reader of a source
abbrev pub source_reader : {R : Type 0} → ReadSource R → R
source_reader source = source.reader

-- the encoding of a source, with the byte that it holds back
abbrev pub source_encoding : {R : Type 0} → ReadSource R → Encoding
source_encoding source = source.encoding

-- the wire text that is held back between calls, at most one byte
abbrev pub text_held : Encoding → List ℕ
text_held Octet = []
text_held (Netascii held) = option_to_list held

-- the wire text that a source has left, if its reader's bytes are known
abbrev pub source_left : {R : Type 0} → (R → Option (List ℕ)) → ReadSource R → Option (List ℕ)
source_left remaining source =
    option_map (text_left (source_encoding source)) (remaining (source_reader source))

-- the writer of a sink
abbrev pub sink_writer : {W : Type 0} → WriteSink W → W
sink_writer sink = sink.writer

-- a sink's bytes are committed
abbrev pub sink_committed : {W : Type 0} → WriteSink W → Bool
sink_committed sink = sink.is_committed

-- the content of a sink, if its writer's bytes are known
abbrev pub sink_holding : {W : Type 0} → (W → Option (List ℕ)) → WriteSink W → Option Holding
sink_holding contents sink =
    option_map (λ bytes. record { bytes = bytes; committed = sink_committed sink; refuses = false })
    (contents (sink_writer sink))

-- n bytes are moved from the start of the text to the end of the buffer
pub record Gives (before after : Option (List ℕ)) (old new : List ℕ) (n : ℕ) : Type 0 where
  pub piece : List ℕ
  pub given : new ≡ old ++ piece
  pub count : length piece ≡ n
  pub consumed : Consumes before after piece

-- the content grew by a prefix of the piece
pub record GrowsByPrefix (before after : Option (List ℕ)) (piece : List ℕ) : Type 0 where
  pub kept : List ℕ
  pub prefix : IsPrefixOf kept piece
  pub grown : Grows before after kept

-- all of a piece is written, or a prefix of it
abbrev pub Writes : {A : Type 0} → Option (List ℕ) → Option (List ℕ) → List ℕ → Result A StoreFault
    → Type 0
Writes before after piece (Ok done) = Grows before after piece
Writes before after piece (Err fault) = GrowsByPrefix before after piece
