-- Both servers of the witness at one address and port, and both clients: each serves its own.
use Rattle.tftp_words.proofs.Common.{rules, ◌≡◌, refl, sym, ap, ◌∙◌, subst, ℕ, List, [], ◌∷◌, Some, arith, inl, inr}
use Rattle.tftp_words.proofs.Common.{◌≢◌, slice_get, Endpoint, Received, Sent, local_sink}
use Rattle.tftp_words.proofs.Common.{local_source, sources, stores, alone, ArePortsFresh, our_ports, IsStranger, Noted}
use Rattle.tftp_words.proofs.Common.{events_of, ClientProgram, ServerProgram, Several, honest_if, server, ◌++◌}
use Rattle.std.specs.List.{Contains}
use Rattle.tftp_promises.specs.Alone.{IsPassedOver, IsServed, there}
use Rattle.tftp_promises.specs.Order.{IsError, IsStrangerTo}
use Rattle.tftp_promises.specs.Others.{TakesOwn}
use Rattle.tftp_promises.specs.Programs.{client_at}
use Rattle.tftp_promises.specs.Several.{AreHonest, AreInOrder, ips_of, known_ports, number_of, other_ports}
use Rattle.tftp_promises.proofs.EachAlone.{sent_in}
use Rattle.tftp_promises.proofs.Orders.{one_in}
use Rattle.tftp_promises.proofs.OthersTaken.{takes_none}
use Rattle.tftp_words.specs.Witness.{SeveralMeetAll, SomeMeetAll}
use Rattle.tftp_words.proofs.WitnessRuns.{asks_get, asks_put, away, fresh_with, get_client, get_meets, get_ports}
use Rattle.tftp_words.proofs.WitnessRuns.{get_ran, get_server, getting, gets_of, gives, gives_ran, keeps, keeps_ran}
use Rattle.tftp_words.proofs.WitnessRuns.{put_client, put_meets, put_ports, put_ran, put_server, putting, putting_ran}
use Rattle.tftp_words.proofs.WitnessRuns.{get_delivers, get_order, put_delivers, put_order, requests}
use Rattle.tftp_loop.proofs.WitnessPort.{handles}
use Rattle.tftp_daemon.proofs.WitnessServers as sv

abbrev pub All : Type 0
All = Several stores sources local_source local_sink

abbrev pub all : All
all = record { ip = server.ip; port = 69; servers = gives ∷ keeps ∷ []; clients = getting ∷ putting ∷ [] }

abbrev pub order : List Noted
order = put_order 1 3 ++ get_order 0 2

abbrev Strange : Endpoint → Type 0
Strange = IsStrangerTo all.ip [] all.clients

honest : AreHonest all order
honest = honest_if (ips_of all) Strange order (put_delivers (ips_of all) Strange 1 3 refl refl (get_order 0 2)
    (get_delivers (ips_of all) Strange 0 2 refl refl [] tt))

-- what holds of both holds of each
of_two : {X : Type 0} (x y : X) (P : ℕ → X → Type 0) → P 0 x → P 1 y → (i : ℕ) (z : X) →
    slice_get (x ∷ y ∷ []) i ≡ Some z → P i z
of_two x y P first second i z e = search rules

in_order : AreInOrder all order
in_order = record {
  servers = of_two gives keeps (λ i x. events_of i order ≡ x.noted) refl refl;
  clients = of_two getting putting (λ k x. events_of (number_of all k) order ≡ x.noted) refl refl;
}

-- no other server's port is another one
none_for_get : other_ports all 0 gives getting ≡ []
unfolding sv.asks_to_read sv.opens_read sv.completes_read sv.closes_read handles
none_for_get = refl

none_for_put : other_ports all 1 keeps putting ≡ []
unfolding sv.asks_to_write sv.opens_write sv.stores_write handles
none_for_put = refl

ports_apart : there all getting ≢ there all putting
ports_apart = search rules

-- a client at another address is a stranger to the other and its server
strange : (s : ServerProgram stores sources requests) (i : ℕ) (c x : ClientProgram local_source local_sink requests) →
    x.ip ≢ server.ip → client_at c ≢ client_at x → IsStranger (alone all i s c) (there all x)
strange s i c x elsewhere apart = search rules

get_fresh : ArePortsFresh (alone all 0 gives getting)
unfolding sv.asks_to_read sv.opens_read sv.completes_read sv.closes_read handles
get_fresh = fresh_with gives getting get_ports away

put_fresh : ArePortsFresh (alone all 1 keeps putting)
unfolding sv.asks_to_write sv.opens_write sv.stores_write handles
put_fresh = fresh_with keeps putting put_ports away

-- what the servers sent went to their own clients
gives_to : (port : ℕ) (to : Endpoint) (bytes : List ℕ) → Contains gives.noted (Sent port to bytes) → sv.getter ≡ to
gives_to port to bytes sent = search rules

keeps_to : (port : ℕ) (to : Endpoint) (bytes : List ℕ) → Contains keeps.noted (Sent port to bytes) → sv.putter ≡ to
keeps_to port to bytes sent = search rules

get_served : IsServed all order 0 gives 0 getting
get_served = record {
  among = record {
    is_order = in_order;
    honest = honest;
    others = of_two getting putting (λ j x. j ≢ 0 → IsStranger (alone all 0 gives getting) (there all x)) (λ n. absurd (n refl))
        (λ n. strange gives 0 getting putting away ports_apart);
    fresh = get_fresh;
    apart = λ j x port to bytes found other sent known near.
        of_two gives keeps (λ i s. i ≢ 0 → Contains s.noted (Sent port to bytes) → IsError bytes) (λ n. absurd (n refl))
        (λ n sent. elim near [
          | inl at_server ↦ absurd (away (ap (λ (a : Endpoint). a.ip) (keeps_to port to bytes sent) ∙ at_server))
          | inr at_client ↦ absurd (ports_apart (sym (keeps_to port to bytes sent ∙ at_client)))
        ]) j x found other sent;
    away = λ port known. absurd (let P : List ℕ → Type 0 = λ ports. Contains ports port in
        let none = (subst P none_for_get known).1 in omega (arith, none));
  };
  own = subst (λ (others : List ℕ). TakesOwn server.ip others getting.runs) (sym none_for_get)
      (takes_none server.ip getting.runs);
}

put_served : IsServed all order 1 keeps 1 putting
put_served = record {
  among = record {
    is_order = in_order;
    honest = honest;
    others = of_two getting putting (λ j x. j ≢ 1 → IsStranger (alone all 1 keeps putting) (there all x))
        (λ n. strange keeps 1 putting getting away (λ e. ports_apart (sym e))) (λ n. absurd (n refl));
    fresh = put_fresh;
    apart = λ j x port to bytes found other sent known near.
        of_two gives keeps (λ i s. i ≢ 1 → Contains s.noted (Sent port to bytes) → IsError bytes)
        (λ n sent. elim near [
          | inl at_server ↦ absurd (away (ap (λ (a : Endpoint). a.ip) (gives_to port to bytes sent) ∙ at_server))
          | inr at_client ↦ absurd (ports_apart (gives_to port to bytes sent ∙ at_client))
        ]) (λ n. absurd (n refl)) j x found other sent;
    away = λ port known. absurd (let P : List ℕ → Type 0 = λ ports. Contains ports port in
        let none = (subst P none_for_put known).1 in omega (arith, none));
  };
  own = subst (λ (others : List ℕ). TakesOwn server.ip others putting.runs) (sym none_for_put)
      (takes_none server.ip putting.runs);
}

-- ---- the get is not of the second server
passed_ports : our_ports (alone all 1 keeps getting) keeps.run ≡ []
unfolding sv.asks_to_write sv.opens_write sv.stores_write handles
passed_ports = refl

passed_known : known_ports all keeps getting ≡ 69 ∷ []
unfolding sv.asks_to_write sv.opens_write sv.stores_write handles
passed_known = refl

passed_others : other_ports all 1 keeps getting ≡ 1024 ∷ []
unfolding sv.asks_to_write sv.opens_write sv.stores_write handles
passed_others = refl

not_69 : (port : ℕ) → Contains (69 ∷ []) port → Contains (1024 ∷ []) port → ⊥
not_69 port known other = let same = one_in port 69 known ∙ sym (one_in port 1024 other) in omega (arith, same)

-- the second server received nothing of the first client
keeps_none : (port : ℕ) (bytes : List ℕ) → Contains keeps.noted (Received port (there all getting) bytes) → ⊥
keeps_none port bytes received = search rules

get_passed_over : IsPassedOver all order 1 keeps 0 getting
get_passed_over = record {
  among = record {
    is_order = in_order;
    honest = honest;
    others = of_two getting putting (λ j x. j ≢ 0 → IsStranger (alone all 1 keeps getting) (there all x)) (λ n. absurd (n refl))
        (λ n. strange keeps 1 getting putting away ports_apart);
    fresh = search (rules, passed_ports, passed_others, away);
    apart = λ j x port to bytes found other sent known near.
        of_two gives keeps (λ i s. i ≢ 1 → Contains s.noted (Sent port to bytes) → IsError bytes)
        (λ n sent. absurd (not_69 port (subst (λ (ports : List ℕ). Contains ports port) passed_known known)
        (sent_in gives.noted port to bytes sent))) (λ n. absurd (n refl)) j x found other sent;
    away = λ port known same. away (ap (λ (a : Endpoint). a.ip) same);
  };
  refused = λ port bytes received. absurd (keeps_none port bytes received);
}

pub several_meet_all : SeveralMeetAll get_server put_server get_ran put_ran
unfolding sv.serves_get sv.serves_put
several_meet_all = record {
  ip = server.ip;
  port = 69;
  serve = ((refl, refl), ((refl, refl), tt));
  ask = (asks_get.0, asks_put);
  several = all;
  are_ran = record {
    of_servers = (gives, keeps ∷ [], refl, gives_ran, (keeps, [], refl, keeps_ran, refl));
    of_clients = (getting ∷ [], putting ∷ [], refl, gets_of, putting_ran);
  };
  order = order;
  first_server = gives;
  is_first = refl;
  second_server = keeps;
  is_second = refl;
  gets = getting;
  is_get = refl;
  puts = putting;
  is_put = refl;
  get_served = get_served;
  put_served = put_served;
  get_passed_over = get_passed_over;
}

pub some_meet_all : SomeMeetAll
some_meet_all = (get_server, put_server, get_client, put_client, get_meets, put_meets, several_meet_all)
