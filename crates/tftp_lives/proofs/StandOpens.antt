-- How an end stands as it opens.
use Rattle.tftp_lives.proofs.Common.{List, ◌≡◌, ℕ, true, inl, false, ◌∷◌, refl, inr, sym, subst, arith, ◌≤◌, Bool, []}
use Rattle.tftp_lives.proofs.Common.{◌<◌, ◌*◌, true≢false, ◌⊎◌, canonical, IsValid, MAX_BLOCK, Packet, Data, Ack, Oack}
use Rattle.tftp_lives.proofs.Common.{EndState, is_sender, is_client, Endpoint, Receiving, Sending, Waiting, Terms, Role}
use Rattle.tftp_lives.proofs.Common.{newest, Said, Begins, rules, Mode, Known, size, agreed_terms, default_terms}
use Rattle.tftp_lives.proofs.Spelled.{valid_block}
use Rattle.tftp_lives.proofs.StandsMore.{copied_first}
use Rattle.std.specs.Prelude.{length as list_length}
use Rattle.tftp_negotiate.specs.Agreed.{agreed_options}
use Rattle.tftp_ends.specs.Opening.{serving_read, serving_write}
use Rattle.tftp_lives.specs.Unanswered.{MayAgree, To_get, To_put, To_serve_read, To_serve_write}
use Rattle.tftp_lives.proofs.Stands.{CanNumber, Goes, IsOack, Says, Stands, TalksSo}

-- an end of the server, whose first datagram is this packet
opens_talk : (sends : Bool) (role : Role) (t : Terms) (n : ℕ) (q : Packet) → is_sender role.side ≡ sends →
    is_client role.side ≡ false → (sends ≡ true → CanNumber role.length t) → Says q sends n ⊎ IsOack q role.side n →
    IsValid q → ((j : ℕ) → 1 ≤ j → j ≤ n → Says q sends j) →
    TalksSo sends (Said t.peer (canonical q) ∷ []) role t.peer (canonical q) t n
opens_talk sends role t n q side server numbered says valid first = search rules

abbrev OpensSo : EndState → Type 0
OpensSo e = Stands (newest e ∷ []) e

serves_read : (agreed : List Known) (peer : Endpoint) (mode : Mode) (length retries : ℕ) (piece : List ℕ) →
    MayAgree agreed → length < 65535 * size agreed → list_length piece ≤ MAX_BLOCK →
    OpensSo (serving_read agreed peer mode length retries piece)
serves_read [] peer mode length retries piece may fits short =
    let e = serving_read [] peer mode length retries piece in
    Goes (Sending (default_terms peer) 1) (inl refl)
    (opens_talk true e.role (default_terms peer) 1 (Data 1 piece) refl refl
    (λ _. record { fits = fits; sized = may.sized }) (inl refl) (valid_block 1 piece (omega arith) (omega arith) short)
    (λ j low high. omega (arith, low, high)))
    (copied_first _ [] _ _ refl)
serves_read (known ∷ others) peer mode length retries piece may fits short =
    let e = serving_read (known ∷ others) peer mode length retries piece in
    let t = agreed_terms peer (known ∷ others) in
    Goes (Sending t 0) (inl refl)
    (opens_talk true e.role t 0 (Oack (agreed_options (known ∷ others))) refl refl
    (λ _. record { fits = fits; sized = may.sized }) (inr (refl, refl)) (may.oack (λ e. cc))
    (λ j low high. absurd (omega (arith, low, high))))
    (copied_first _ [] _ _ refl)

serves_write : (agreed : List Known) (peer : Endpoint) (mode : Mode) (retries : ℕ) → MayAgree agreed →
    OpensSo (serving_write agreed peer mode retries)
serves_write [] peer mode retries may =
    let e = serving_write [] peer mode retries in
    Goes (Receiving (default_terms peer) 0) (inl refl)
    (opens_talk false e.role (default_terms peer) 0 (Ack 0) refl refl (λ no. absurd (true≢false (sym no))) (inl refl)
    (omega arith) (λ j low high. absurd (omega (arith, low, high))))
    (copied_first _ [] _ _ refl)
serves_write (known ∷ others) peer mode retries may =
    let e = serving_write (known ∷ others) peer mode retries in
    let t = agreed_terms peer (known ∷ others) in
    Goes (Receiving t 0) (inl refl)
    (opens_talk false e.role t 0 (Oack (agreed_options (known ∷ others))) refl refl
    (λ no. absurd (true≢false (sym no))) (inr (refl, refl)) (may.oack (λ e. cc))
    (λ j low high. absurd (omega (arith, low, high))))
    (copied_first _ [] _ _ refl)

pub begins_so : (e : EndState) → Begins e → OpensSo e
begins_so e (To_get to name mode asked limit retries askable is) =
    subst OpensSo (sym is)
    (Goes (Waiting asked limit) (inl refl) (refl, askable, (tt, tt)) (copied_first _ [] _ _ refl))
begins_so e (To_put to name mode asked length limit retries askable is) =
    subst OpensSo (sym is)
    (Goes (Waiting asked limit) (inl refl) (refl, askable, (tt, tt))
    (copied_first _ [] _ _ refl))
begins_so e (To_serve_read agreed peer mode length retries piece may fits short is) =
    subst OpensSo (sym is) (serves_read agreed peer mode length retries piece may fits short)
begins_so e (To_serve_write agreed peer mode retries may is) =
    subst OpensSo (sym is) (serves_write agreed peer mode retries may)
