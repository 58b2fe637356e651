-- When a client refuses the first answer of its server: the file is too long (RFC 1350, section 2;
-- RFC 2347, "Negotiation Protocol"; RFC 2349, "Transfer Size Option Specification").
use Rattle.std.specs.Prelude.{ℕ, ◌≡◌, List, Some, [], ◌⊎◌, Ok, ◌≤◌}
use Rattle.tftp_promises.specs.Common.{SourceMeaning, StoreMeaning, SinkMeaning, outcome_of, Spells}
use Rattle.tftp_promises.specs.Common.{Known, Opening, path_of_name}
use Rattle.std.specs.Prelude.{◌*◌, ◌<◌}
use Rattle.tftp_wire.specs.declared.limits.TheConstants.{MAX_BLOCK}
use Rattle.tftp_negotiate.specs.Agreed.{size}
use Rattle.tftp_negotiate.specs.Answer.{answer}
use Rattle.tftp_negotiate.specs.Asked.{asked_options}
use Rattle.tftp_negotiate.specs.declared.known.Kind.TheVariants as kinds
use Rattle.tftp_ends.specs.declared.outcome.Outcome.TheVariants as outcomes
use Rattle.tftp_promises.specs.Given.{StoreOpened}
use Rattle.tftp_promises.specs.Order.{Programs, ClientOf, requests_at}
use Rattle.tftp_promises.specs.Programs.{OpensToRead, OpensToWrite, To_read, To_write}
use Rattle.tftp_promises.specs.Programs.{request_packet}

module _ {S F D G K : Type 0} {stores : StoreMeaning S D} {sources : SourceMeaning F}
    {inputs : SourceMeaning G} {outputs : SinkMeaning K}
    (programs : Programs stores sources inputs outputs) where
  -- the client sends a file of more blocks than can be numbered, of the size that the server agrees
  -- to for its request, or of 512 bytes, if it answered without options
  pub record HasTooManyBlocks (client : ClientOf programs) : Type 0 where
    pub opens : OpensToWrite inputs outputs (requests_at programs) client.first client.file
    pub writes : client.opens ≡ To_write opens
    pub agreed : List Known
    pub answers : (agreed ≡ [])
        ⊎ (answer (asked_options opens.asked opens.mode) kinds.Write opens.mode 0
        programs.server.start.server.config.limits ≡ Ok agreed)
    pub many : 65535 * size agreed ≤ opens.length

  -- the file that the server's store opened for the client's request, under the path of its name,
  -- is longer than the client accepts. One that accepts what can be numbered in the largest blocks,
  -- as `tftp` does, does not close so
  pub record IsLongerThanAccepted (client : ClientOf programs) : Type 0 where
    pub opens : OpensToRead inputs outputs (requests_at programs) client.first client.file
    pub reads : client.opens ≡ To_read opens
    pub path : List ℕ
    pub named : path_of_name opens.name ≡ Ok path
    pub request : List ℕ
    pub asked : Spells (request_packet client.opens) request
    pub opening : Opening F
    pub opened : StoreOpened programs.server.run path request opens.mode opening
    pub long : opens.limit < opening.length
    pub numbered : opening.length < 65535 * MAX_BLOCK

  -- the client closed as `TooLarge` for one of both
  pub record IsTooLong (client : ClientOf programs) : Type 0 where
    pub closed : outcome_of client.last.end.position.phase ≡ Some outcomes.TooLarge
    pub why : HasTooManyBlocks client ⊎ IsLongerThanAccepted client
