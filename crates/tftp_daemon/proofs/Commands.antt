-- The command line and the configuration that its matches name.
use Rattle.std.proofs.Common.{◌≡◌, ◌∙◌, ℕ, List, [], ◌∷◌, Option, Some, None, true, refl, ap, subst, codes}
use Rattle.std.specs.Prelude.{find, option_map}
use Rattle.std.specs.Option.{option_map_or}
use Rattle.std.specs.Str.{bytes_eq}
use Rattle.clap.specs.Facts.{Entry}
use Rattle.clap.specs.Faults.{is_simple_and_free}
use Rattle.clap.specs.Matches.{found_of, raw_values}
use Rattle.clap.specs.Simple.{is_simple}
use Rattle.clap.specs.Walk.{Row, row_of, rows_of}
use Rattle.clap.specs.declared.parser.matches.Found.{Found}
use Rattle.clap.proofs.WalkLemmas.{find-map}
use Rattle.clap.specs.declared.parser.matches.ArgMatches.{ArgMatches}
use Rattle.tftp_arguments.specs.Read.{ReadWords, read_in, read_of}
use Rattle.tftp_arguments.proofs.Commands.{matches_are_rows}
use Rattle.tftp_daemon.specs.CommandLine.{NamesInRows, NamesServer, words_in, words_of}
use Rattle.tftp_daemon.specs.Words.{tftpd_app}
use Rattle.tftp_daemon.specs.declared.daemon.DaemonConfig.{DaemonConfig}

-- the command line is one whose matches are known
pub simple : is_simple tftpd_app ≡ true
simple = refl

-- no argument has a rule on another
pub free : is_simple_and_free tftpd_app ≡ true
free = refl

-- the words of an option, by their row
pub words_by_rows : (found : Found) (id : List ℕ) → words_of found id ≡ words_in (rows_of found) id
words_by_rows found id =
    go (find (λ (e : Entry). bytes_eq e.0.now id) found.entries.items)
    ∙ ap (λ (r : Option Row). option_map_or (λ (row : Row). row.values) r [])
    (find-map (λ (r : Row). bytes_eq r.id id) row_of found.entries.items)
  where
    go : (e : Option Entry) → option_map_or raw_values (option_map (λ (entry : Entry). entry.1) e) []
        ≡ option_map_or (λ (row : Row). row.values) (option_map row_of e) []
    go None = refl
    go (Some e) = refl

-- the configuration of these matches, by their rows
pub by_rows : (m : ArgMatches) {config : DaemonConfig}
    → NamesServer (read_of m) (words_of (found_of m) (codes "listen")) config
    → NamesInRows (rows_of (found_of m)) config
by_rows m {config} names =
    subst (λ (listens : List (List ℕ)). NamesServer (read_in (rows_of (found_of m))) listens config)
    (words_by_rows (found_of m) (codes "listen"))
    (subst (λ (read : ReadWords). NamesServer read (words_of (found_of m) (codes "listen")) config) (matches_are_rows m) names)
