-- The ends of a world, as the struct that plays the world holds them.
use Rattle.std.specs.Prelude.{ℕ, ◌≡◌, ◌+◌, true, List, [], ◌∷◌}
use Rattle.tftp_player.specs.Common.{wire_text, Record, EndState, is_client, AreFilesOf, OpenEnd}
use Rattle.tftp_player.specs.Clients.{client_at, server_at, left_in, holding_in}
use Rattle.tftp_player.specs.PlayedClient.{PlayedClient}
use Rattle.tftp_player.specs.ServerEnd.{ServerEndKept, draft_or_new, server_end_draft}
use Rattle.tftp_player.specs.World.{WorldEnd, end_record, standing}
use Rattle.tftp_player.specs.declared.played_end.PlayedEnd.{PlayedEnd}
use Rattle.tftp_player.specs.declared.played_end.PlayedEnd.TheVariants.{Client, Server}
use Rattle.tftp_player.specs.declared.server_end.ServerEnd.{ServerEnd}

-- the end of a client, as it was when it closed if it has
abbrev pub client_end : ℕ → PlayedClient → OpenEnd
client_end port c =
    record {
      address = client_at port;
      state = c.end;
      path = [];
      file = c.file;
      text = wire_text c.end.role.mode c.file;
      left = left_in c.files;
      stored = (holding_in c.files).bytes;
      committed = (holding_in c.files).committed;
      refuses = (holding_in c.files).refuses;
      request = [];
    }

-- and that of the server
abbrev pub served_end : ℕ → ServerEnd → OpenEnd
served_end port s =
    record {
      address = server_at port;
      state = s.transfer.end;
      path = s.transfer.path;
      file = s.file;
      text = wire_text s.transfer.end.role.mode s.file;
      left = left_in s.transfer.files;
      stored = (draft_or_new (server_end_draft s)).bytes;
      committed = (draft_or_new (server_end_draft s)).committed;
      refuses = s.refuses;
      request = s.transfer.request;
    }

abbrev pub played_end : ℕ → PlayedEnd → OpenEnd
played_end port (Client c) = client_end port c
played_end port (Server s) = served_end port s

-- the state of either
abbrev pub played_state : PlayedEnd → EndState
played_state (Client c) = c.end
played_state (Server s) = s.transfer.end

-- the end of the world at this port
abbrev pub stands : ℕ → PlayedEnd → WorldEnd
stands port p = standing (played_end port p)

-- what holds of either
abbrev pub IsPlayed : PlayedEnd → Type 0
IsPlayed (Client c) =
    (is_client c.end.role.side ≡ true) × AreFilesOf c.end.role.side c.files
IsPlayed (Server s) = ServerEndKept s

-- the records of the ends, from this port on
abbrev pub records_from : ℕ → List WorldEnd → List (ℕ × Record)
records_from port [] = []
records_from port (x ∷ ends) = (port, end_record x) ∷ records_from (port + 1) ends
