-- The addresses of the words, one after another.
use Rattle.std.proofs.Common.{◌≡◌, ◌<◌, ◌+◌, ◌∙◌, ℕ, List, [], ◌∷◌, ◌++◌, Some, length, map, take, ap, subst, sym}
use Rattle.std.specs.Borrow.{Bor}
use Rattle.std.specs.Prelude.{slice_index_or}
use Rattle.std.proofs.lemmas.List.{map-append, take_more}
use Rattle.tftp_ends.specs.declared.endpoint.Endpoint.{Endpoint}
use Rattle.tftp_sockets.specs.Address.{Names}
use Rattle.tftp_daemon.specs.CommandLine.{NameEndpoints}

-- one word more
named_next : (words : List (List ℕ)) (endpoints : List Endpoint) (word : List ℕ) (endpoint : Endpoint)
    → NameEndpoints words endpoints → Names word (Some endpoint)
    → NameEndpoints (words ++ word ∷ []) (endpoints ++ endpoint ∷ [])
named_next [] [] word endpoint are is = (is, tt)
named_next [] (e ∷ endpoints) word endpoint are is = absurd are
named_next (w ∷ words) [] word endpoint are is = absurd are
named_next (w ∷ words) (e ∷ endpoints) word endpoint are is =
    (are.0, named_next words endpoints word endpoint are.1 is)

abbrev pub texts_of : List (Bor (List ℕ)) → List (List ℕ)
texts_of words = map (λ word. word.now) words

pub named_more : (words : List (Bor (List ℕ))) (index : ℕ) (d : Bor (List ℕ)) (endpoints pushed : List Endpoint)
    (endpoint : Endpoint) → index < length words → NameEndpoints (texts_of (take index words)) endpoints
    → Names (slice_index_or words index d).now (Some endpoint) → pushed ≡ endpoints ++ endpoint ∷ []
    → NameEndpoints (texts_of (take (index + 1) words)) pushed
named_more words index d endpoints pushed endpoint below are names grown =
    let more : texts_of (take (index + 1) words)
    ≡ texts_of (take index words) ++ (slice_index_or words index d).now ∷ [] =
    ap texts_of (take_more words index d below)
    ∙ map-append (λ (w : Bor (List ℕ)). w.now) (take index words) (slice_index_or words index d ∷ []) in
    subst (λ (ws : List (List ℕ)). NameEndpoints ws pushed) (sym more)
    (subst (λ (es : List Endpoint).
    NameEndpoints (texts_of (take index words) ++ (slice_index_or words index d).now ∷ []) es) (sym grown)
    (named_next (texts_of (take index words)) endpoints (slice_index_or words index d).now endpoint are names))
