-- The configurations of a server (RFC 2348, "Blocksize Option Specification", for the block sizes;
-- the rest is our choice).
use Rattle.std.specs.Prelude.{◌≤◌, false}
use Rattle.tftp_file.specs.declared.length.TheConstants.{MAX_WIRE}
use Rattle.tftp_negotiate.specs.Ranges.{IsBlockSize}
use Rattle.tftp_server.specs.declared.config.Config.{Config}

-- each number is in its range
pub record IsConfig (config : Config) : Type 0 where
  pub max_block : IsBlockSize config.limits.max_block
  pub retries : config.retries ≤ 10
  pub some : 1 ≤ config.cap
  pub cap : config.cap ≤ 64

-- the default configuration
abbrev pub default_config : Config
default_config =
    record {
      limits = record { max_block = 1428; max_file = MAX_WIRE };
      retries = 5;
      cap = 16;
      overwrite = false;
    }
