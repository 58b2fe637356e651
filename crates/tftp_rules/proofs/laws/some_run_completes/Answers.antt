-- A read with a block size, by the rules.
use Rattle.tftp_rules.proofs.Common.{◌≡◌, List, refl, sym, true, [], false, rules, ◌∷◌, Bool, true≢false, if◌then◌else◌}
use Rattle.tftp_rules.proofs.Common.{Octet, client_ip, server_ip, host_of, Endpoint, start, At_server, At_client}
use Rattle.tftp_rules.proofs.Common.{is_same, nobody, Rule, after, Asks, Opens_with, IsLegal, Takes_oack, Appends}
use Rattle.tftp_rules.proofs.Common.{Sends_next, Completes, asking, AreOver, WireRequest}
use Rattle.tftp_rules.specs.Hosts.{two_hosts}
use Rattle.tftp_rules.specs.Rules.{IsOpenedBy}
use Rattle.tftp_rules.proofs.laws.some_run_completes.Goals as goal

-- the client's end
abbrev c : Endpoint
c = record { ip = client_ip; port = 1024 }

-- the server's end
abbrev s : Endpoint
s = record { ip = server_ip; port = 1025 }

at_client : host_of c ≡ At_client
unfolding host_of
at_client = refl

at_server : host_of s ≡ At_server
unfolding host_of
at_server = refl

abbrev request : WireRequest
request = record { name = 97 ∷ []; mode = Octet; options = [] }

abbrev rules_of : List Rule
rules_of =
    Asks c false request [] ∷ Opens_with s c false request (65 ∷ []) 8 ∷ Takes_oack c s 8 ∷ Sends_next s c ∷ Appends c s
    (65 ∷ []) ∷ Completes s c ∷ []

-- the request opened no end before
no_end : (b : Bool) → IsOpenedBy (if b then asking false request [] else nobody) c false request → ⊥
no_end true h = true≢false h.server
no_end false h = true≢false (sym h.is_open)

no_duplicate : AreOver (after two_hosts (Asks c false request []) start) c false request
no_duplicate a h = absurd (no_end (is_same a c) h)

legal : IsLegal two_hosts rules_of start
legal = search (rules, at_client, at_server, no_duplicate)

pub returns : goal.returns
returns g = (
  rules_of,
  s,
  c,
  legal,
  record {
    established = (refl, refl, refl, refl);
    sent = refl;
    received = refl;
    same = refl;
    some = λ e. cc;
  },
)
