-- From the bytes that came out of a reader to the answers of `from_reader_with`, by cases on the
-- error.
use Rattle.std.proofs.Common.{◌≢◌, ℕ, List, Result, Ok, Err, inl, inr, Vec, Global}
use Rattle.std.specs.Prelude.{Option, IfOk, IfErr, MatchResult}
use Rattle.gltf_glb.specs.declared.error.Error.{Error}
use Rattle.gltf_glb.specs.declared.error.Error.TheVariants as error
use Rattle.gltf_json.specs.declared.root.Root.{Root}
use Rattle.gltf.specs.Errors.{OutOfMemoryOr}
use Rattle.gltf.specs.Import.{IsNoDocument, RefusesText}
use Rattle.gltf.specs.Reader.{IsFile, RefusesFile, IsAllThatCounts, StopsReadingOr, UnlessFailure}
use Rattle.gltf.specs.Shown.{blob_bytes}
use Rattle.gltf_options.specs.Broken.{RefusesBesides}
use Rattle.gltf_options.specs.Import.{IsNoValidBesides, RefusesRulesBesides}
use Rattle.gltf_options.specs.Names.{texts}
use Rattle.gltf_options.specs.Opened.{IsOpened}
use Rattle.gltf_options.specs.Reader.{IsFileBesides, RefusesFileBesides}
use Rattle.gltf_options.specs.Reader.{RefusesTextOrRulesBesides}
use Rattle.gltf_options.specs.declared.file.Opened.{Opened}
use Rattle.gltf_options.proofs.Documents.{valid_file, only_file, no_valid_of_none}
use Rattle.gltf_options.proofs.Documents.{refuses_rules, told_more}
use Rattle.gltf_options.proofs.Shown.{Alike}

-- ---- no records came

stops_too : (also : List (List ℕ)) (left : Option (List ℕ)) (came : List ℕ) (e : Error)
    → StopsReadingOr RefusesText left came e
    → StopsReadingOr (RefusesTextOrRulesBesides also) left came e
stops_too also left came error.Memory told = tt
stops_too also left came (error.Io cause) told = told
stops_too also left came (error.Binary cause) told = told
stops_too also left came _ told = (told.0, inl told.1)

unless_too : (also : List (List ℕ)) (came : List ℕ) (e : Error)
    → UnlessFailure IsNoDocument came e → UnlessFailure (IsNoValidBesides also) came e
unless_too also came error.Memory told = tt
unless_too also came (error.Io cause) told = tt
unless_too also came _ told = no_valid_of_none also came told

pub refuses_too : (also : List (List ℕ)) (left : Option (List ℕ)) (came : List ℕ) (e : Error)
    → RefusesFile left came e → RefusesFileBesides also left came e
refuses_too also left came e refused = record {
  fails = stops_too also left came e refused.told;
  exact = unless_too also came e refused.exact;
}

-- ---- they came, and break a rule without the names of the list

breaks : (also : List (List ℕ)) (left : Option (List ℕ)) (came : List ℕ) (e : Error)
    → IsAllThatCounts left came → OutOfMemoryOr (RefusesRulesBesides also came) e
    → (e ≢ error.Memory → IsNoValidBesides also came) → RefusesFileBesides also left came e
breaks also left came error.Memory all told exact = record { fails = tt; exact = tt }
breaks also left came (error.Io cause) all told exact = absurd told.fails
breaks also left came (error.Binary cause) all told exact = absurd told.fails
breaks also left came e all told exact =
    record { fails = (all, inr told); exact = exact (λ is. cc) }

-- ---- the answer

pub read_file : (also : List (List ℕ)) (left : Option (List ℕ)) (came : List ℕ) (whole : Root)
    (blob : Option (Vec ℕ Global)) (result : Result Opened Error) → Alike
    → IsFile left came whole (blob_bytes blob) → IfOk result (IsOpened also whole blob)
    → IfErr result (OutOfMemoryOr (RefusesBesides also whole))
    → IfErr result (λ e. e ≢ error.Memory → IsNoValidBesides also came)
    → MatchResult result (λ file. IsFileBesides also left came file.gltf.document
    (texts file.also_required.items) (blob_bytes file.gltf.blob))
    (RefusesFileBesides also left came)
read_file also left came whole blob (Ok file) alike is opened refused exact = record {
  all = is.all;
  valid = valid_file also came whole blob file is.document opened;
  only = only_file also came whole blob file alike is.only opened;
}
read_file also left came whole blob (Err e) alike is opened refused exact =
    breaks also left came e is.all
    (told_more (RefusesBesides also whole) (RefusesRulesBesides also came) e
    (refuses_rules also came whole (blob_bytes blob) e is.document) refused)
    exact
