-- What the calls of a source give, joined. For `gives_in_order`.
use Rattle.std.proofs.lemmas.Grind.{common_steps}
use Rattle.std.proofs.Common.{rules, ◌≡◌, ℕ, List, [], ◌++◌, Option, Some, None, IsSome, refl, sym, ap, subst, ◌∙◌, append-nil, append_assoc}
use Rattle.std.proofs.Common.{arith}
use Rattle.std.specs.declared.io.Error.{Error}
use Rattle.tftp_wire.specs.declared.mode.Mode.{Mode}
use Rattle.tftp_file.specs.Block.{IsPrefixOf}
use Rattle.tftp_file.specs.Netascii.{wire_text}
use Rattle.tftp_file.specs.Source.{GivesInTurn, SourceMeaning}
use Rattle.tftp_file.specs.Source.GivesInTurn.{Gave_more, Gave_nothing}
use Rattle.tftp_disk.specs.Given.{given}
use Rattle.tftp_disk.specs.DiskSource.{GivesPiece, HasGiven, IsUnread, pending, source_calls, source_error, source_mode, wire_read}
use Rattle.tftp_disk.specs.DiskSourceLaws.{GivenInOrder, GivesInOrder}
use Rattle.tftp_disk.specs.declared.disk_source.DiskSource.{DiskSource}
use Rattle.tftp_disk.proofs.DiskSourceLemmas.{wire_more}

module _ {F : Type 0} where
  -- the text of what was read, after a call
  more_read : (before after : DiskSource F) (piece : List ℕ) (gave : GivesPiece before piece after)
      → wire_read after ≡ wire_read before ++ wire_text (source_mode before) gave.bytes
  more_read before after piece gave = search (rules, wire_more)

  -- all that was read was given or is left, unless a read failed
  all_given : (before after : DiskSource F) (text piece : List ℕ) → HasGiven before text
      → GivesPiece before piece after → source_error after ≡ None
      → wire_read after ≡ (text ++ piece) ++ pending after
  all_given before after text piece had gave sound = grind (arith, common_steps)

  begins_by : (before after : DiskSource F) (text piece : List ℕ) → HasGiven before text
      → GivesPiece before piece after → (error : Option Error) → source_error after ≡ error
      → IsPrefixOf (text ++ piece) (wire_read after)
  begins_by before after text piece had gave None is = (pending after, sym (all_given _ _ _ _ had gave is))
  begins_by before after text piece had gave (Some error) is =
      let some : IsSome (Some error) = search rules in
      let failed : IsSome (source_error after) = subst (λ (e : Option Error). IsSome e) (sym is) some in
      let new = wire_text (source_mode before) gave.bytes in
      let front : text ++ piece ≡ text = ap (λ l. text ++ l) (gave.none failed) ∙ append-nil text in (
        had.begins.0 ++ new,
        ap (λ l. l ++ (had.begins.0 ++ new)) front ∙ sym (append_assoc text had.begins.0 new) ∙ ap (λ l. l ++ new)
            had.begins.1 ∙ sym (more_read before after piece gave),
      )

  -- a call gives more of what was read
  given_more : (before after : DiskSource F) (text piece : List ℕ) → HasGiven before text
      → GivesPiece before piece after → HasGiven after (text ++ piece)
  given_more before after text piece had gave = record {
    begins = begins_by before after text piece had gave (source_error after) refl;
    whole = λ sound. all_given before after text piece had gave sound;
  }

  -- a source that has read nothing has given nothing
  none_given : (mode : Mode) (first : DiskSource F) → IsUnread mode first → given (source_calls first) ≡ []
      → HasGiven first []
  none_given mode first unread none = search rules

  -- the calls give the bytes of the file in order
  pub gives_in_order : (sources : SourceMeaning (DiskSource F))
      → ((before after : DiskSource F) (piece : List ℕ) → sources.gives before piece after → GivesPiece before piece after)
      → GivesInOrder sources
  gives_in_order sources is mode first last text turn unread none = in_turn text last turn
    where
      in_turn : (text : List ℕ) (last : DiskSource F) → GivesInTurn sources first text last
          → GivenInOrder first last text
      in_turn text last Gave_nothing =
          record { mode = refl; place = refl; found = refl; pass = refl; given = none_given mode first unread none }
      in_turn text last (Gave_more {bytes} {piece} {before} {after} turn gives) =
          let had = in_turn bytes before turn in
          let gave = is before after piece gives in
          search (
            gave.mode ∙ had.mode,
            gave.reads.place ∙ had.place,
            gave.reads.found ∙ had.found,
            gave.reads.pass ∙
                had.pass,
            given_more before after bytes piece had.given gave,
          )
