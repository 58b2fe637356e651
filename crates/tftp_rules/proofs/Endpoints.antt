-- Whether two endpoints are the same. For `texts_go_on`, eight other files and the crates tftp_player and
-- tftp_promises.
use Rattle.tftp_rules.proofs.Common.{◌≡◌, List, refl, sym, true, false, ℕ, rules, ◌∙◌, ap, inl, inr, cases_Bool, eq-eqb}
use Rattle.tftp_rules.proofs.Common.{cases_eq, cond-true, ◌≢◌, ◌==◌, ◌⊎◌, Endpoint, is_same, is_same_ip, same_text}
use Rattle.std.specs.Cmp.Lexicographic.{other_text}
use Rattle.tftp_rules.specs.Texts.{EndpointsAreTheirParts}

-- an address is the same as itself
pub same_ip : (a : List ℕ) → is_same_ip a a ≡ true
same_ip a = search rules

-- endpoints of the same address and port are one
pub endpoint_from : EndpointsAreTheirParts
endpoint_from a b e f = search rules

-- two endpoints are the same or not
pub cases_same : (a b : Endpoint) → (a ≡ b) ⊎ (a ≢ b)
cases_same a b = elim (cases_Bool (is_same_ip a.ip b.ip)) [
  | inl t ↦ elim (cases_eq a.port b.port) [
    | inl e ↦ inl (endpoint_from a b (same_text a.ip b.ip (sym t)) e)
    | inr n ↦ inr (λ e. n (ap (λ (c : Endpoint). c.port) e))
  ]
  | inr f ↦ inr (λ e. other_text a.ip b.ip (sym f) (ap (λ (c : Endpoint). c.ip) e))
]

-- an endpoint is found the same as itself
pub same_self : (a : Endpoint) → is_same a a ≡ true
same_self a = cond-true (is_same_ip a.ip a.ip) (a.port == a.port) false (same_ip a.ip) ∙ eq-eqb a.port a.port refl

-- other endpoints are found not the same
pub same_other : (a b : Endpoint) → a ≢ b → is_same a b ≡ false
same_other a b n = search rules
