-- What a source moves from its file and its buffer. For five functions and GivenLemmas.
use Rattle.std.proofs.Common.{◌≡◌, ◌≤◌, ℕ, ◌+◌, false, List, [], ◌∷◌, ◌++◌, length, take, drop, is_some, sym, ap, ◌∙◌}
use Rattle.std.proofs.Common.{refl, arith, append-nil, append_assoc, length-take-le, take-append-drop, rules}
use Rattle.std.proofs.lemmas.Grind.{flat_map-append, common_steps}
use Rattle.std.proofs.lemmas.List.{drop_all, drop_at, take_at}
use Rattle.std.proofs.Math.Seq.{take-add}
use Rattle.tftp_wire.specs.declared.mode.Mode.{Mode}
use Rattle.tftp_wire.specs.declared.mode.Mode.TheVariants as mode
use Rattle.tftp_file.specs.Netascii.{wire_byte, wire_text, netascii_text}
use Rattle.tftp_disk.specs.DiskTrace.{DiskEvent}
use Rattle.tftp_disk.specs.DiskTrace.DiskEvent.{Given}
use Rattle.tftp_disk.specs.DiskSource.{source_calls, AppendsRead, GivesPiece, Passes}
use Rattle.tftp_disk.specs.declared.disk_source.DiskSource.{DiskSource}
use Rattle.tftp_disk.specs.DiskSourceLaws.{no_text}
use Rattle.tftp_disk.proofs.ReadLemmas.{reads_nothing}

-- a read behind what a buffer had, which is then cut after the bytes that were read
pub appends_read : (before after : List DiskEvent) (old zeros resized lent items full new : List ℕ) (start n : ℕ)
    → start ≡ length old → resized ≡ old ++ zeros → lent ≡ resized → take start full ≡ take start lent
    → start + n ≤ length full → items ≡ full → new ≡ take (start + n) items
    → after ≡ Given (take n (drop start full)) ∷ before → AppendsRead before after old new n
appends_read before after old zeros resized lent items full new start n at grown same kept within is cut noted =
    grind (arith, common_steps, take_at, take-add)

-- bytes that have no wire text are none
pub no_lines : (bytes : List ℕ) → netascii_text bytes ≡ [] → bytes ≡ []
no_lines [] none = refl
no_lines (x ∷ xs) none = search rules

-- the wire text of two pieces
pub wire_more : (mode : Mode) (xs ys : List ℕ) → wire_text mode (xs ++ ys) ≡ wire_text mode xs ++ wire_text mode ys
wire_more mode.Octet xs ys = refl
wire_more mode.Netascii xs ys = flat_map-append wire_byte xs ys

-- nothing is moved
pub passes_nothing : (mode : Mode) (left : List ℕ) (events : List DiskEvent) (old new : List ℕ) → new ≡ old
    → Passes mode left left events events old new 0
passes_nothing mode left events old new same =
    search ([], reads_nothing events, [], same ∙ sym (append-nil old), no_text mode left)

-- and nothing after it
pub passes_end : (mode : Mode) (a b c : List ℕ) (before between after : List DiskEvent) (old mid new : List ℕ)
    (m n : ℕ) → Passes mode a b before between old mid m → Passes mode b c between after mid new n → n ≡ 0
    → Passes mode a c before after old new m
passes_end mode a b c before between after old mid new m n p q none = grind (arith, common_steps)

-- some of what was read ahead is moved
pub passes_ahead : (mode : Mode) (ahead rest a : List ℕ) (events : List DiskEvent) (old new : List ℕ) (want : ℕ)
    → want ≤ length ahead → new ≡ old ++ take want ahead → rest ≡ drop want ahead
    → Passes mode (ahead ++ a) (rest ++ a) events events old new want
passes_ahead mode ahead rest a events old new want enough appended left =
    search (
      [],
      reads_nothing events,
      take want ahead,
      length-take-le want ahead enough,
      no_text mode (ahead ++ a) ∙ ap (λ l. l ++ a) (sym (take-append-drop want ahead)) ∙ append_assoc (take want ahead)
          (drop want ahead) a ∙ ap (λ l. take want ahead ++ (l ++ a)) (sym left),
    )

module _ {F : Type 0} where
  -- a call that changes nothing gives nothing
  pub gives_unmoved : (before after : DiskSource F) (old new : List ℕ) → after.file ≡ before.file
      → after.buffer ≡ before.buffer → after.ahead ≡ before.ahead → after.mode ≡ before.mode
      → after.error ≡ before.error → new ≡ old → GivesPiece before (drop (length old) new) after
  gives_unmoved before after old new file buffer ahead same_mode error same =
      search (rules, drop_all, reads_nothing)

  -- a call that moves some of what was read ahead gives it
  pub gives_moved : (before after : DiskSource F) (old new : List ℕ) (want : ℕ) → after.file ≡ before.file
      → after.buffer ≡ before.buffer → after.mode ≡ before.mode → after.error ≡ before.error
      → is_some before.error ≡ false → want ≤ length before.ahead → new ≡ old ++ take want before.ahead
      → after.ahead ≡ drop want before.ahead → GivesPiece before (drop (length old) new) after
  gives_moved before after old new want file buffer same_mode error sound enough appended rest =
      let p = passes_ahead before.mode _ _ before.buffer (source_calls before) _ _ _ enough appended rest in
      let piece : drop (length old) new ≡ p.piece = search (rules, drop_at) in
      search rules
