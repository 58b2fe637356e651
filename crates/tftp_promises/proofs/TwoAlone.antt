-- Programs that are written out: an order of their events is honest, and a server and a client alone have fresh ports.
use Rattle.tftp_promises.proofs.Common.{List, ℕ, ◌≡◌, rules, Endpoint, refl, [], SourceMeaning, Some, inl, StoreMeaning}
use Rattle.tftp_promises.proofs.Common.{◌∷◌, SinkMeaning, Programs, Contains, ◌≢◌, slice_get, Sent, Received, endpoint}
use Rattle.tftp_promises.proofs.Common.{Noted, our_ports, ArePortsFresh, ClientProgram, ⊤, ServerProgram, IsHonestOf}
use Rattle.tftp_promises.proofs.Common.{CanComeOf}

module _ (ips : List (List ℕ)) (Strange : Endpoint → Type 0) where
  -- a datagram that this program sent comes to another
  pub comes_from : (sender program : ℕ) {port sport : ℕ} {sip ip bytes : List ℕ} {earlier : List Noted} →
      slice_get ips sender ≡ Some sip → slice_get ips program ≡ Some ip →
      Contains earlier (sender, Sent sport (endpoint ip port) bytes) →
      CanComeOf ips Strange program (Received port (endpoint sip sport) bytes) earlier
  comes_from sender program {port = port} {sport = sport} {sip} {ip} there here sent = (
    endpoint ip port,
    (ip, here, refl),
    inl (record { program = sender; port = sport; is_at = (sip, there, refl); sent = sent }),
  )

  -- an order is honest if each datagram in it can come
  abbrev pub Delivers : List Noted → Type 0
  Delivers [] = ⊤
  Delivers ((program, Received port from bytes) ∷ earlier) =
      CanComeOf ips Strange program (Received port from bytes) earlier × Delivers earlier
  Delivers ((program, event) ∷ earlier) = Delivers earlier

  pub honest_if : (order : List Noted) → Delivers order → IsHonestOf ips Strange order
  honest_if [] d = tt
  honest_if ((program, Received port from bytes) ∷ earlier) d = (d.0, honest_if earlier d.1)
  honest_if ((program, event) ∷ earlier) d = (tt, honest_if earlier d)

module _ {G K : Type 0} {inputs : SourceMeaning G} {outputs : SinkMeaning K} {to : Endpoint}
    (c : ClientProgram inputs outputs to) where
  -- what holds of the client holds of each
  pub each : (P : ℕ → ClientProgram inputs outputs to → Type 0) → P 0 c → (k : ℕ)
      (x : ClientProgram inputs outputs to) → slice_get (c ∷ []) k ≡ Some x → P k x
  each P is k x e = search rules

module _ {S F D G K : Type 0} {stores : StoreMeaning S D} {sources : SourceMeaning F} {inputs : SourceMeaning G}
    {outputs : SinkMeaning K} (ip : List ℕ) (port : ℕ) (s : ServerProgram stores sources (endpoint ip port))
    (c : ClientProgram inputs outputs (endpoint ip port)) where
  abbrev pub two_alone : Programs stores sources inputs outputs
  two_alone = record { ip = ip; port = port; server = s; others = []; clients = c ∷ [] }

  -- of a client at another address, whose transfer has another port than the requests
  pub fresh_of_two : (tid : ℕ) → port ≢ tid → our_ports two_alone s.run ≡ tid ∷ [] → c.ip ≢ ip → ArePortsFresh two_alone
  fresh_of_two tid n is away = search rules
