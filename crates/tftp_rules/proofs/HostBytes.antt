-- From wire text to the bytes of a file: a prefix on the wire is a prefix of the file. For NextBlocks and the crates
-- tftp_player and tftp_promises.
pub use Rattle.tftp_file.proofs.PrefixLemmas.{host_begins as wire_prefix}
use Rattle.tftp_rules.proofs.Common.{◌≡◌, List, refl, sym, [], ℕ, ◌∷◌, ◌∙◌, ◌++◌, ap, length, inl, inr, append_assoc}
use Rattle.tftp_rules.proofs.Common.{suc, zero, append-nil, Mode, Octet, Netascii, wire_text, netascii_text}
use Rattle.tftp_rules.proofs.Common.{begins_front}
use Rattle.std.proofs.Common.{replicate}
use Rattle.tftp_file.specs.Decoding.{IsHeldBack}
use Rattle.tftp_file.proofs.DecodingLemmas.{one_way, stop_nil}
use Rattle.tftp_file.proofs.NetasciiLemmas.{netascii-append}

-- two files with one wire text are the same
pub wire_same : (mode : Mode) (xs ys : List ℕ) → wire_text mode xs ≡ wire_text mode ys → xs ≡ ys
wire_same Octet xs ys e = e
wire_same Netascii xs ys e =
    (one_way xs ys [] [] stop_nil stop_nil
    (append-nil (netascii_text xs) ∙ (e ∙ sym (append-nil (netascii_text ys))))).0

-- ---- what begins the text of a file, and then zeros, is the text of a file
zeros_text : (k : ℕ) → netascii_text (replicate k 0) ≡ replicate k 0
zeros_text zero = refl
zeros_text (suc k) = ap (λ (zs : List ℕ). 0 ∷ zs) (zeros_text k)

-- a file whose text begins so, and goes on with zeros
padded : (bytes after xs : List ℕ) (n : ℕ) → IsHeldBack after → xs ≡ netascii_text bytes ++ after →
    (file : List ℕ) × (netascii_text file ≡ xs ++ replicate (suc n) 0)
padded bytes after xs n (inl none) e =
    let zeros = replicate (suc n) 0 in (
      bytes ++ zeros,
      netascii-append bytes zeros ∙ (ap (λ (ys : List ℕ). netascii_text bytes ++ ys) (zeros_text (suc n))
          ∙ ap (λ (ys : List ℕ). ys ++ zeros) (sym (e ∙ (ap (λ (ys : List ℕ). netascii_text bytes ++ ys) none
          ∙ append-nil (netascii_text bytes))))),
    )
padded bytes after xs n (inr cr) e = (
  bytes ++ 13 ∷ replicate n 0,
  netascii-append bytes (13 ∷ replicate n 0)
      ∙ (ap (λ (ys : List ℕ). netascii_text bytes ++ 13 ∷ 0 ∷ ys) (zeros_text n)
      ∙ (sym (append_assoc (netascii_text bytes) (13 ∷ []) (replicate (suc n) 0))
      ∙ ap (λ (ys : List ℕ). ys ++ replicate (suc n) 0) (sym (e ∙ ap (λ
      (ys : List ℕ). netascii_text bytes ++ ys) cr)))),
)

-- in either mode
pub padded_text : (mode : Mode) (file xs rest : List ℕ) → wire_text mode file ≡ xs ++ rest →
    (other : List ℕ) × (wire_text mode other ≡ xs ++ replicate (length rest) 0)
padded_text Octet file xs rest e = (xs ++ replicate (length rest) 0, refl)
padded_text Netascii file xs [] e = (file, e)
padded_text Netascii file xs (r ∷ rest) e =
    let b = begins_front xs (r ∷ rest) (file, [], (inl refl, sym e ∙ sym (append-nil (netascii_text file)))) in
    padded b.0 b.1 xs (length rest) b.2.0 b.2.1
