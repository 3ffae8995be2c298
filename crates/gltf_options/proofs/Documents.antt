-- From the records of a file to the document without the names of a list, for the contract of
-- `from_slice_with`. `one_document` says that the bytes determine it; `no_valid` that where it
-- breaks a rule, no other one that they are breaks none; `refuses_file` that its broken rules, at
-- their places in the file, are those of the file. The premises `Alike` and `SameRules` are
-- laws of `gltf_json` and of `gltf_rules`.
use Rattle.std.proofs.Common.{◌≡◌, ◌≢◌, ℕ, List, [], Result, Ok, Err, refl, sym, ap, ap₂, subst}
use Rattle.std.proofs.Common.{◌∙◌, ◌∷◌, inl, inr, map, Vec, Global}
use Rattle.std.specs.Prelude.{Option, IfOk, IfErr, filter, not}
use Rattle.gltf_glb.specs.declared.error.Error.{Error}
use Rattle.gltf_glb.specs.declared.error.Error.TheVariants as error
use Rattle.gltf_json.specs.Documents.{root}
use Rattle.gltf_json.specs.declared.root.Root.{Root}
use Rattle.gltf_validation.specs.Documents.{Faults}
use Rattle.gltf.specs.Errors.{OutOfMemoryOr}
use Rattle.gltf.specs.Import.{IsDocument, IsOnlyDocument, IsNoDocument, RefusesRecords}
use Rattle.gltf.specs.Shown.{blob_bytes}
use Rattle.gltf_options.specs.Besides.{IsBesides, required_of}
use Rattle.gltf_options.specs.Broken.{Fault, is_listed_at, faults_besides, RefusesBesides}
use Rattle.gltf_options.specs.Import.{IsValidBesides, IsOnlyBesides}
use Rattle.gltf_options.specs.Import.{IsNoValidBesides, RefusesRulesBesides}
use Rattle.gltf_options.specs.Import.{RefusesDocumentBesides}
use Rattle.gltf_options.specs.Names.{texts, taken_of}
use Rattle.gltf_options.specs.Opened.{IsOpened}
use Rattle.gltf_options.specs.Places.{places_left, in_file, TellsRulesInFile}
use Rattle.gltf_options.specs.declared.file.Opened.{Opened}
use Rattle.gltf_options.proofs.FaultsInFile.{faults_in_file}
use Rattle.gltf_options.proofs.Shown.{Alike, same_besides, same_required}

abbrev pub SameRules : Type 0
SameRules = (r s : Root) → root.content r ≡ root.content s → Faults r ≡ Faults s

-- the records and what is left of them are all that the bytes can be
pub one_document : (also : List (List ℕ)) (bytes : List ℕ) (whole r : Root)
    (taken : List (List ℕ)) (blob : Option (List ℕ)) → Alike → IsOnlyDocument bytes whole blob
    → IsBesides also whole r → taken ≡ taken_of also (required_of whole)
    → IsOnlyBesides also bytes r taken blob
one_document also bytes whole r taken blob alike only besides named s others rest other =
    let same = only other.whole rest other.document in (
      same_besides also other.whole whole s r alike same.0 other.besides besides,
      other.named ∙ ap (taken_of also) (same_required other.whole whole alike same.0) ∙ sym named,
      same.1,
    )

-- ---- the rules that are broken

-- documents that show the same break the same rules but for those of the names of a list
pub same_besides_rules : (also : List (List ℕ)) (r s : Root) → Alike → SameRules
    → root.content r ≡ root.content s → faults_besides also r ≡ faults_besides also s
same_besides_rules also r s alike rules same =
    ap₂ (λ (required : List (List ℕ)) (faults : List Fault).
    filter (λ f. not (is_listed_at also required f.0)) faults)
    (same_required r s alike same) (rules r s same)

none_moved : (places : List ℕ) (faults : List Fault) → map (in_file places) faults ≡ []
    → faults ≡ []
none_moved places [] none = refl
none_moved places (f ∷ fs) none = cc

-- what is told of what is left is told of the file
pub refuses_file : (also : List (List ℕ)) (r s : Root) (places : List ℕ) (e : Error)
    → IsBesides also r s → places ≡ places_left also (required_of r)
    → TellsRulesInFile places s e → RefusesBesides also r e
refuses_file also r s places (error.Validation faults) besides is told =
    let broken : faults_besides also r ≡ map (in_file places) (Faults s) =
    rw is (faults_in_file also r s besides) in (
      told.0 ∙ sym broken,
      λ none. told.1 (none_moved places (Faults s) (sym broken ∙ none)),
    )
refuses_file also r s places _ besides is told = absurd told

breaks_some : (also : List (List ℕ)) (r : Root) (e : Error) → RefusesBesides also r e
    → faults_besides also r ≢ []
breaks_some also r (error.Validation faults) told = told.1
breaks_some also r _ told = absurd told

-- what is left breaks a rule: whatever else the bytes are without these names does too
pub no_valid : (also : List (List ℕ)) (bytes : List ℕ) (whole : Root) (blob : Option (List ℕ))
    (e : Error) → Alike → SameRules → IsOnlyDocument bytes whole blob
    → RefusesBesides also whole e → IsNoValidBesides also bytes
no_valid also bytes whole blob e alike rules only refused s others rest valid =
    let other = valid.document in
    let same = only other.whole rest other.document in
    breaks_some also whole e refused
    (same_besides_rules also whole other.whole alike rules (sym same.0)
    ∙ faults_in_file also other.whole s other.besides
    ∙ ap (map (in_file (places_left also (required_of other.whole)))) valid.rules)

pub no_valid_of_none : (also : List (List ℕ)) (bytes : List ℕ) → IsNoDocument bytes
    → IsNoValidBesides also bytes
no_valid_of_none also bytes none s taken blob valid =
    none valid.document.whole blob valid.document.document

pub refuses_rules : (also : List (List ℕ)) (bytes : List ℕ) (whole : Root)
    (blob : Option (List ℕ)) (e : Error) → IsDocument bytes whole blob
    → RefusesBesides also whole e → RefusesRulesBesides also bytes e
refuses_rules also bytes whole blob e document refused =
    record { whole = whole; blob = blob; document = document; fails = refused }

-- ---- out of memory, or what is said of an error

told_other : (P : Error → Type 0) (e : Error) → OutOfMemoryOr P e → e ≢ error.Memory → P e
told_other P error.Memory told other = absurd (other refl)
told_other P e told other = told

pub told_more : (P Q : Error → Type 0) (e : Error) → (P e → Q e) → OutOfMemoryOr P e
    → OutOfMemoryOr Q e
told_more P Q error.Memory more told = tt
told_more P Q e more told = more told

-- ---- the answers

pub valid_file : (also : List (List ℕ)) (bytes : List ℕ) (whole : Root)
    (blob : Option (Vec ℕ Global)) (file : Opened) → IsDocument bytes whole (blob_bytes blob)
    → IsOpened also whole blob file → IsValidBesides also bytes file.gltf.document
    (texts file.also_required.items) (blob_bytes file.gltf.blob)
valid_file also bytes whole blob file document is = record {
  document =
      record {
        whole = whole;
        document =
            subst (λ (b : Option (Vec ℕ Global)). IsDocument bytes whole (blob_bytes b))
            (sym is.blob_is) document;
        besides = is.besides;
        named = is.named;
      };
  rules = is.rules;
}

pub only_file : (also : List (List ℕ)) (bytes : List ℕ) (whole : Root)
    (blob : Option (Vec ℕ Global)) (file : Opened) → Alike
    → IsOnlyDocument bytes whole (blob_bytes blob)
    → IsOpened also whole blob file → IsOnlyBesides also bytes file.gltf.document
    (texts file.also_required.items) (blob_bytes file.gltf.blob)
only_file also bytes whole blob file alike only is =
    one_document also bytes whole file.gltf.document (texts file.also_required.items)
    (blob_bytes file.gltf.blob) alike
    (subst (λ (b : Option (Vec ℕ Global)). IsOnlyDocument bytes whole (blob_bytes b))
    (sym is.blob_is) only)
    is.besides is.named

pub ok_valid : (also : List (List ℕ)) (bytes : List ℕ) (whole : Root)
    (blob : Option (Vec ℕ Global)) (result : Result Opened Error)
    → IsDocument bytes whole (blob_bytes blob) → IfOk result (IsOpened also whole blob)
    → IfOk result (λ file. IsValidBesides also bytes file.gltf.document
    (texts file.also_required.items) (blob_bytes file.gltf.blob))
ok_valid also bytes whole blob (Ok file) document is =
    valid_file also bytes whole blob file document is
ok_valid also bytes whole blob (Err e) document is = tt

pub ok_only : (also : List (List ℕ)) (bytes : List ℕ) (whole : Root)
    (blob : Option (Vec ℕ Global)) (result : Result Opened Error) → Alike
    → IsOnlyDocument bytes whole (blob_bytes blob) → IfOk result (IsOpened also whole blob)
    → IfOk result (λ file. IsOnlyBesides also bytes file.gltf.document
    (texts file.also_required.items) (blob_bytes file.gltf.blob))
ok_only also bytes whole blob (Ok file) alike only is =
    only_file also bytes whole blob file alike only is
ok_only also bytes whole blob (Err e) alike only is = tt

pub err_refused : (also : List (List ℕ)) (bytes : List ℕ) (whole : Root)
    (blob : Option (List ℕ)) (result : Result Opened Error) → IsDocument bytes whole blob
    → IfErr result (OutOfMemoryOr (RefusesBesides also whole))
    → IfErr result (OutOfMemoryOr (RefusesDocumentBesides also bytes))
err_refused also bytes whole blob (Ok file) document told = tt
err_refused also bytes whole blob (Err e) document told =
    told_more (RefusesBesides also whole) (RefusesDocumentBesides also bytes) e
    (λ refused. inr (refuses_rules also bytes whole blob e document refused)) told

pub err_exact : (also : List (List ℕ)) (bytes : List ℕ) (whole : Root)
    (blob : Option (List ℕ)) (result : Result Opened Error) → Alike → SameRules
    → IsOnlyDocument bytes whole blob
    → IfErr result (OutOfMemoryOr (RefusesBesides also whole))
    → IfErr result (λ e. e ≢ error.Memory → IsNoValidBesides also bytes)
err_exact also bytes whole blob (Ok file) alike rules only told = tt
err_exact also bytes whole blob (Err e) alike rules only told = λ other.
    no_valid also bytes whole blob e alike rules only
    (told_other (RefusesBesides also whole) e told other)

-- the records do not hold
pub none_refused : (also : List (List ℕ)) (bytes : List ℕ) (e : Error)
    → OutOfMemoryOr (RefusesRecords bytes) e
    → OutOfMemoryOr (RefusesDocumentBesides also bytes) e
none_refused also bytes e told =
    told_more (RefusesRecords bytes) (RefusesDocumentBesides also bytes) e (λ refused. inl refused)
    told
