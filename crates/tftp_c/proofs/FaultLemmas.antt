-- Why an opening failed.
use Rattle.tftp_c.proofs.Common.{ℕ, Option, None, IsSome, inl, inr, refl, subst, Endpoint, EndState, at, length}
use Rattle.tftp_c.proofs.Common.{Table, TftpEndpoint, endpoint_of}
use Rattle.std.specs.Prelude.{◌≡◌, ◌↔◌, ◌⊎◌, ◌<◌, List, Err, IsErrOf}
use Rattle.tftp_ends.specs.declared.fault.OpenFault.TheVariants as open_faults
use Rattle.tftp_server.specs.CallersFiles.{asked_path}
use Rattle.tftp_server.specs.Port.{Ask}
use Rattle.tftp_server.specs.Request.{Admits}
use Rattle.tftp_server.specs.declared.fault.ServerFault.{ServerFault}
use Rattle.tftp_server.specs.declared.fault.ServerFault.TheVariants.{TidInUse, NoSuchTid, Memory}
use Rattle.tftp_c.specs.declared.event.TftpOptions.{TftpOptions}
use Rattle.tftp_c.specs.Faults.{AsksFile, FailsWith, FirstTooLong, GetUnserved, HandleRefused, PutUnserved}
use Rattle.tftp_c.specs.Faults.{GetFails, PutFails, ReturnsHeld}
use Rattle.tftp_c.specs.HeldServer.{table_fault}
use Rattle.tftp_c.specs.Options.{HasSize, options_in}
use Rattle.tftp_c.specs.ServerOpens.{AnswersGet, AnswersPut}

-- an opening with the options fails for this reason
pub fails_with : (given : List ℕ) (options : TftpOptions) (fails : TftpOptions → Type 0) (returned : ℕ) →
    HasSize given → options ≡ options_in given → fails options → FailsWith given fails returned
fails_with given options fails returned sized is why = inr (sized, subst fails is why)

-- a read has an end that its handle refuses, or whose first datagram is too long
pub get_refused : (client : TftpEndpoint) (datagram : List ℕ) (whole : ℕ) (next : List ℕ) (options : TftpOptions)
    (room : ℕ) (e : EndState) (count returned : ℕ) →
    AnswersGet client datagram whole next options room e count →
    HandleRefused e room returned → GetUnserved datagram whole next options room returned
get_refused client datagram whole next options room e count returned a (inl memory) =
    inr (inr (inr (inl
    (record {
      request = a.request;
      asked = a.asked;
      agreed = a.agreed;
      answers = a.answers;
      why = record { fault = open_faults.Memory; number = memory; why = a.fits };
    }))))
get_refused client datagram whole next options room e count returned a (inr long) =
    inr (inr (inr (inr (
      long.0,
      record {
        request = a.request;
        asked = a.asked;
        agreed = a.agreed;
        answers = a.answers;
        why = inr (record { peer = endpoint_of client; rest = a.rest; end = e; serves = a.serves; long = long.1 });
      },
    ))))

-- the same of a write
pub put_refused : (client : TftpEndpoint) (datagram : List ℕ) (options : TftpOptions) (room : ℕ) (e : EndState)
    (returned : ℕ) →
    AnswersPut client datagram options e → FirstTooLong e room returned → PutUnserved datagram options room returned
put_refused client datagram options room e returned a long =
    inl (
      long.0,
      record {
        request = a.request;
        asked = a.asked;
        agreed = a.agreed;
        answers = a.answers;
        peer = endpoint_of client;
        long = subst (λ (s : EndState). room < length s.position.last_sent) a.state long.1;
      },
    )

-- a transfer of a read does not open
pub get_fails : (tid : ℕ) (from : TftpEndpoint) (request : List ℕ) (whole : ℕ) (next : List ℕ) (options : TftpOptions)
    (table : Table) (room : ℕ) (e : EndState) (count returned : ℕ) →
    AnswersGet from request whole next options room e count →
    FirstTooLong e room returned ⊎ ReturnsHeld tid from request table returned →
    GetFails tid from request whole next options table room returned
get_fails tid from request whole next options table room e count returned a (inl long) =
    inl (get_refused from request whole next options room e count returned a (inr long))
get_fails tid from request whole next options table room e count returned a (inr held) = inr held

-- the same of a write
pub put_fails : (tid : ℕ) (from : TftpEndpoint) (request : List ℕ) (options : TftpOptions) (table : Table) (room : ℕ)
    (e : EndState) (returned : ℕ) →
    AnswersPut from request options e → FirstTooLong e room returned ⊎ ReturnsHeld tid from request table returned →
    PutFails tid from request options table room returned
put_fails tid from request options table room e returned a (inl long) =
    inl (put_refused from request options room e returned a long)
put_fails tid from request options table room e returned a (inr held) = inr held

asks_file : (table : Table) (from : TftpEndpoint) (peer : Endpoint) (request : List ℕ) (ask : Ask)
    (such : Option (List ℕ) → Type 0) →
    peer ≡ endpoint_of from → Admits table peer request ask → such (asked_path ask) →
    AsksFile table from request such
asks_file table from peer request ask such is admits file =
    record {
      ask = ask;
      admits = subst (λ (p : Endpoint). Admits table p request ask) is admits;
      file = file;
    }

-- why an end is not held, by its fault
pub hold_fails : {T : Type 0} (tid : ℕ) (from : TftpEndpoint) (peer : Endpoint) (request : List ℕ) (ask : Ask)
    (table : Table) (fault : ServerFault) (returned : ℕ) →
    returned ≡ table_fault fault →
    peer ≡ endpoint_of from →
    Admits table peer request ask →
    (IsErrOf {T = T} (Err fault) TidInUse ↔ IsSome (at tid table.held)) →
    (IsErrOf {T = T} (Err fault) NoSuchTid → asked_path ask ≡ None) →
    (IsErrOf {T = T} (Err fault) Memory → IsSome (asked_path ask)) →
    ReturnsHeld tid from request table returned
hold_fails tid from peer request ask table TidInUse returned number is admits used none memory =
    record { fault = TidInUse; number = number; why = used.0 refl }
hold_fails {T = T} tid from peer request ask table NoSuchTid returned number is admits used none memory =
    record {
      fault = NoSuchTid;
      number = number;
      why = (
        λ some. let e : IsErrOf {T = T} (Err NoSuchTid) TidInUse = used.1 some in absurd (cc),
        asks_file table from peer request ask (λ path. path ≡ None) is admits (none refl),
      );
    }
hold_fails {T = T} tid from peer request ask table Memory returned number is admits used none memory =
    record {
      fault = Memory;
      number = number;
      why = inr (
        λ some. let e : IsErrOf {T = T} (Err Memory) TidInUse = used.1 some in absurd (cc),
        asks_file table from peer request ask (λ path. IsSome path) is admits (memory refl),
      );
    }
