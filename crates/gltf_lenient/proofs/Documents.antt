-- From the records of a mended file to its document without the names of a list.
use Rattle.std.proofs.Common.{◌≡◌, ◌≢◌, ℕ, List, [], Result, Ok, Err, Vec, Global, inr, refl, sym}
use Rattle.std.proofs.Common.{ap, subst, map, ◌∙◌}
use Rattle.std.specs.Prelude.{Option, IfOk, IfErr}
use Rattle.gltf_glb.specs.declared.error.Error.{Error}
use Rattle.gltf_glb.specs.declared.error.Error.TheVariants as error
use Rattle.gltf_json.specs.declared.root.Root.{Root}
use Rattle.gltf.specs.Errors.{OutOfMemoryOr}
use Rattle.gltf.specs.Shown.{blob_bytes}
use Rattle.gltf_options.specs.Alike.{AreLeftAlike, BreakTheSameBesides}
use Rattle.gltf_options.specs.Besides.{IsBesides, required_of}
use Rattle.gltf_options.specs.Broken.{faults_besides, RefusesBesides}
use Rattle.gltf_options.specs.Laws.{AreBrokenWithout}
use Rattle.gltf_options.specs.Names.{texts, taken_of}
use Rattle.gltf_options.specs.Opened.{IsOpened}
use Rattle.gltf_options.specs.Places.{places_left, in_file}
use Rattle.gltf_options.specs.declared.file.Opened.{Opened}
use Rattle.gltf_lenient.specs.Import.{also_of, IsMendedDocument, IsOnlyMendedDocument}
use Rattle.gltf_lenient.specs.Import.{IsValidMended, IsOnlyMended, IsNoValidMended, RefusesMended}
use Rattle.gltf_lenient.specs.declared.options.Options.{Options}

-- ---- one document

-- the records and what is left of them are all that the bytes can be
one_document : (options : Options) (bytes : List ℕ) (whole r : Root) (taken : List (List ℕ))
    (blob : Option (List ℕ)) → AreLeftAlike → IsOnlyMendedDocument options.mends bytes whole blob
    → IsBesides (also_of options) whole r
    → taken ≡ taken_of (also_of options) (required_of whole)
    → IsOnlyMended options bytes r taken blob
one_document options bytes whole r taken blob alike only besides named s others rest other =
    let same = only other.whole rest other.document in
    let left = alike (also_of options) other.whole whole s r same.0 other.besides besides in
    (left.0, other.named ∙ ap (taken_of (also_of options)) left.1 ∙ sym named, same.1)

breaks_some : (also : List (List ℕ)) (r : Root) (e : Error) → RefusesBesides also r e
    → faults_besides also r ≢ []
breaks_some also r (error.Validation faults) told = told.1
breaks_some also r _ told = absurd told

-- what is left breaks a rule: whatever else the bytes are without these names does too
no_valid : (options : Options) (bytes : List ℕ) (whole : Root) (blob : Option (List ℕ))
    (e : Error) → BreakTheSameBesides → AreBrokenWithout
    → IsOnlyMendedDocument options.mends bytes whole blob
    → RefusesBesides (also_of options) whole e → IsNoValidMended options bytes
no_valid options bytes whole blob e same_rules without only refused s others rest valid =
    let also = also_of options in
    let other = valid.document in
    let same = only other.whole rest other.document in
    breaks_some also whole e refused
    (same_rules also whole other.whole (sym same.0)
    ∙ without also other.whole s other.besides
    ∙ ap (map (in_file (places_left also (required_of other.whole)))) valid.rules)

-- ---- out of memory, or what is said of an error

told_other : (P : Error → Type 0) (e : Error) → OutOfMemoryOr P e → e ≢ error.Memory → P e
told_other P error.Memory told other = absurd (other refl)
told_other P e told other = told

told_more : (P Q : Error → Type 0) (e : Error) → (P e → Q e) → OutOfMemoryOr P e
    → OutOfMemoryOr Q e
told_more P Q error.Memory more told = tt
told_more P Q e more told = more told

-- ---- the answers

valid_file : (options : Options) (bytes : List ℕ) (whole : Root) (blob : Option (Vec ℕ Global))
    (file : Opened) → IsMendedDocument options.mends bytes whole (blob_bytes blob)
    → IsOpened (also_of options) whole blob file
    → IsValidMended options bytes file.gltf.document (texts file.also_required.items)
    (blob_bytes file.gltf.blob)
valid_file options bytes whole blob file document is = record {
  document =
      record {
        whole = whole;
        document =
            subst (λ (b : Option (Vec ℕ Global)).
            IsMendedDocument options.mends bytes whole (blob_bytes b)) (sym is.blob_is) document;
        besides = is.besides;
        named = is.named;
      };
  rules = is.rules;
}

pub ok_valid : (options : Options) (bytes : List ℕ) (whole : Root)
    (blob : Option (Vec ℕ Global)) (result : Result Opened Error)
    → IsMendedDocument options.mends bytes whole (blob_bytes blob)
    → IfOk result (IsOpened (also_of options) whole blob)
    → IfOk result (λ file. IsValidMended options bytes file.gltf.document
    (texts file.also_required.items) (blob_bytes file.gltf.blob))
ok_valid options bytes whole blob (Ok file) document is =
    valid_file options bytes whole blob file document is
ok_valid options bytes whole blob (Err e) document is = tt

pub ok_only : (options : Options) (bytes : List ℕ) (whole : Root)
    (blob : Option (Vec ℕ Global)) (result : Result Opened Error) → AreLeftAlike
    → IsOnlyMendedDocument options.mends bytes whole (blob_bytes blob)
    → IfOk result (IsOpened (also_of options) whole blob)
    → IfOk result (λ file. IsOnlyMended options bytes file.gltf.document
    (texts file.also_required.items) (blob_bytes file.gltf.blob))
ok_only options bytes whole blob (Ok file) alike only is =
    one_document options bytes whole file.gltf.document (texts file.also_required.items)
    (blob_bytes file.gltf.blob) alike
    (subst (λ (b : Option (Vec ℕ Global)).
    IsOnlyMendedDocument options.mends bytes whole (blob_bytes b)) (sym is.blob_is) only)
    is.besides is.named
ok_only options bytes whole blob (Err e) alike only is = tt

pub err_refused : (options : Options) (bytes : List ℕ) (whole : Root)
    (blob : Option (List ℕ)) (result : Result Opened Error)
    → IsMendedDocument options.mends bytes whole blob
    → IfErr result (OutOfMemoryOr (RefusesBesides (also_of options) whole))
    → IfErr result (OutOfMemoryOr (RefusesMended options bytes))
err_refused options bytes whole blob (Ok file) document told = tt
err_refused options bytes whole blob (Err e) document told =
    told_more (RefusesBesides (also_of options) whole) (RefusesMended options bytes) e
    (λ refused. inr (record {
      whole = whole;
      blob = blob;
      document = document;
      fails = refused;
    })) told

pub err_exact : (options : Options) (bytes : List ℕ) (whole : Root)
    (blob : Option (List ℕ)) (result : Result Opened Error) → BreakTheSameBesides
    → AreBrokenWithout → IsOnlyMendedDocument options.mends bytes whole blob
    → IfErr result (OutOfMemoryOr (RefusesBesides (also_of options) whole))
    → IfErr result (λ e. e ≢ error.Memory → IsNoValidMended options bytes)
err_exact options bytes whole blob (Ok file) same_rules without only told = tt
err_exact options bytes whole blob (Err e) same_rules without only told = λ other.
    no_valid options bytes whole blob e same_rules without only
    (told_other (RefusesBesides (also_of options) whole) e told other)
