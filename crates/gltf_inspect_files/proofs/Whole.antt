-- A file's report with what is found in its text behind it.
use Rattle.std.proofs.Common.{◌≡◌, ◌≢◌, ◌++◌, ℕ, suc, List, [], ◌∷◌, Bool, true, false, refl, sym, ap}
use Rattle.std.proofs.Common.{◌∙◌, subst, Option, Some, None, if◌then◌else◌, ◌==◌}
use Rattle.std.proofs.Common.{unwrap_or, arith}
use Rattle.std.specs.Prelude.{⊤, MatchOption, option_map, IfNone, IfOk, IsSome, Result, Ok, Err}
use Rattle.std.specs.Prelude.{is_some}
use Rattle.std.proofs.Common.{true≢false}
use Rattle.serde_json.specs.Data as json
use Rattle.serde_json.specs.Read.{read}
use Rattle.gltf_json.specs.Documents.{root}
use Rattle.gltf_json.specs.Reading.{Reads}
use Rattle.gltf_json.specs.declared.root.Root.{Root}
use Rattle.gltf_glb.specs.declared.error.Error.{Error}
use Rattle.gltf_buffers.specs.Names.{Names, Nowhere}
use Rattle.gltf.specs.Import.{AreParts, IsDocument, IsNotAccepted, AcceptsWith}
use Rattle.gltf.specs.Laws.{OneTextAndBlob}
use Rattle.gltf.specs.Shown.{bytes_of_each}
use Rattle.gltf_shared.specs.Shown.{bytes_of_each as shared_bytes}
use Rattle.gltf_findings.specs.Checks.{findings_of}
use Rattle.gltf_findings.specs.Codes.{may_refuse}
use Rattle.gltf_findings.specs.Reports.{refusal_count}
use Rattle.gltf_inspect_unkept.specs.Documents.{unkept_checks}
use Rattle.gltf_inspect_unkept.specs.Laws.{FindsNothing, has_none}
use Rattle.gltf_inspect_files.specs.declared.inspect.Inspected.{Inspected}
use Rattle.gltf_inspect_files.specs.declared.lent.Lent.{Lent}
use Rattle.gltf_inspect_files.specs.Reports.{Found, Said, IsOfRefused, IsOfAccepted}
use Rattle.gltf_inspect_files.specs.Reports.{IsFound, imported_of, lent_of}
use Rattle.gltf_inspect_files.specs.Unkept.{IsUnkept, IsUnkeptOf, IsOfDocument, IsWith}
use Rattle.gltf_inspect_files.specs.Unkept.{IsWhole, IsWholeReport, IsWholeLent}
use Rattle.gltf_inspect_files.specs.Within.{said_by}
use Rattle.gltf_inspect_files.proofs.Accepted.{of_none}

-- ---- the value of a document's text

same_value : (d e : json.Data) → Some d ≡ Some e → d ≡ e
same_value d e same = ap (λ o. unwrap_or o d) same

-- the document of bytes is a reading of the value of their text
value_of : OneTextAndBlob → (bytes text : List ℕ) (blob rest : Option (List ℕ)) (d : json.Data)
    (r : Root) → AreParts bytes text blob → Reads text d → IsDocument bytes r rest → root.is d r
value_of one bytes text blob rest d r parts reads document =
    let texts = (one bytes document.text text rest blob document.parts parts).0 in
    let same : document.value ≡ d =
    same_value document.value d
    (sym document.reads.1 ∙ ap read (sym texts) ∙ reads.1) in
    subst (λ (e : json.Data). root.is e r) same document.records

pub none_found : OneTextAndBlob
    → ((d : json.Data) (r : Root) → root.is d r → has_none r ≡ true → FindsNothing d)
    → (bytes : List ℕ) (rest : Option (List ℕ)) (r : Root) → IsDocument bytes r rest
    → has_none r ≡ true → IsUnkept bytes []
none_found one law bytes rest r document none text blob d parts reads =
    sym (law d r (value_of one bytes text blob rest d r parts reads document) none)

-- ---- what is imported

matched : {X : Type 0} (o : Option X) (A B : Type 0) (P Q : X → Type 0) → (A → B)
    → ((x : X) → P x → Q x) → MatchOption o A P → MatchOption o B Q
matched None A B P Q f g is = f is
matched (Some x) A B P Q f g is = g x is

of_said : (share : Option ℕ) (names : Names) (bytes : List ℕ) (r : Root)
    (buffers : List (List ℕ)) (found : Found) → said_by share names bytes r buffers found
    → AcceptsWith names bytes r buffers
of_said None names bytes r buffers found is = is.accepted
of_said (Some share) names bytes r buffers found is = is.accepted

pub of_document : (share : Option ℕ) (names : Names) (bytes : List ℕ) (file : Lent)
    → IsFound (said_by share) names bytes file.cause (lent_of file.imported) file.report
    → IsOfDocument bytes (lent_of file.imported)
of_document share names bytes file is =
    matched (lent_of file.imported) (IsOfRefused names bytes file.cause file.report) ⊤
    (λ read. said_by share names bytes read.0 read.1 file.report)
    (λ read. (blob : Option (List ℕ)) × IsDocument bytes read.0 blob) (λ refused. tt)
    (λ read said.
    let accepted = of_said share names bytes read.0 read.1 file.report said in
    (accepted.blob, accepted.valid.document)) is

-- ---- the whole

pub whole_report : (share : Option ℕ) (names : Names) (bytes : List ℕ) (file whole : Lent)
    → IsFound (said_by share) names bytes file.cause (lent_of file.imported) file.report
    → IsWith bytes file whole → IsWholeLent share names bytes whole
whole_report share names bytes file whole is with_ = record {
  layers = file.report;
  unkept = with_.unkept;
  of_layers = subst (λ imported. IsFound (said_by share) names bytes whole.cause
      (lent_of imported) file.report) (sym with_.imported)
      (subst (λ cause. IsFound (said_by share) names bytes cause (lent_of file.imported)
      file.report) (sym with_.cause) is);
  of_text = subst (λ cause. IsUnkeptOf bytes cause with_.unkept) (sym with_.cause) with_.is_unkept;
  same = with_.same;
}

-- a file whose buffers have bytes of their own
pub of_its_own : (names : Names) (bytes : List ℕ) (file : Lent) (own : Inspected)
    → own.report ≡ file.report → own.cause ≡ file.cause
    → imported_of own.imported ≡ lent_of file.imported → IsWholeLent None names bytes file
    → IsWholeReport names bytes own
of_its_own names bytes file own report cause imported is =
    subst (λ found. IsWhole IsOfAccepted names bytes own.cause (imported_of own.imported) found)
    (sym report)
    (subst (λ read. IsWhole IsOfAccepted names bytes own.cause read file.report) (sym imported)
    (subst (λ why. IsWhole IsOfAccepted names bytes why (lent_of file.imported) file.report)
    (sym cause) is))

counted : (b : Bool) (m n : ℕ) → (m ≡ 0 → n ≡ 0) → (if b then suc m else m) ≡ 0
    → (if b then suc n else n) ≡ 0
counted true m n fewer none = let never : ⊥ = omega (arith, none) in absurd never
counted false m n fewer none = fewer none

-- where nothing of both says that a file may be refused, nothing of the first does
none_of_first : (some others : Found) → refusal_count (some ++ others) ≡ 0
    → refusal_count some ≡ 0
none_of_first [] others none = refl
none_of_first (f ∷ some) others none =
    counted (may_refuse f.1) (refusal_count (some ++ others)) (refusal_count some)
    (none_of_first some others) none

is_there : {X : Type 0} (o : Option X) (A : Type 0) (P : X → Type 0) → MatchOption o A P → (A → ⊥)
    → IsSome o
is_there None A P is never = absurd (never is)
is_there (Some x) A P is never = refl

there : {X Y : Type 0} (f : X → Y) (o : Option X) → IsSome (option_map f o) → IsSome o
there f None some = some
there f (Some x) some = refl

nowhere : {X Y : Type 0} (f : X → Y) (o : Option X) (P : Type 0) → IfNone (option_map f o) P
    → IfNone o P
nowhere f None P none = none
nowhere f (Some x) P none = tt

imported_without_refusals : (Are : Said) (names : Names) (bytes : List ℕ) (cause : Option Error)
    (imported : Option (Root × List (List ℕ))) (report : Found)
    → ((names : Names) (bytes : List ℕ) (cause : Option Error) (found : Found)
    → IsOfRefused names bytes cause found → refusal_count found ≢ 0)
    → IsWhole Are names bytes cause imported report → refusal_count report ≡ 0
    → IsSome imported
imported_without_refusals Are names bytes cause imported report law is none =
    is_there imported (IsOfRefused names bytes cause is.layers)
    (λ read. Are names bytes read.0 read.1 is.layers) is.of_layers
    (λ refused. law names bytes cause is.layers refused
    (none_of_first is.layers is.unkept (ap refusal_count (sym is.same) ∙ none)))

refused_is_not_accepted : (bytes : List ℕ) (cause : Option Error)
    (imported : Option (Root × List (List ℕ))) (report : Found)
    → ((bytes : List ℕ) (cause : Option Error) (found : Found)
    → IsOfRefused Nowhere bytes cause found → IsNotAccepted bytes)
    → IsWhole IsOfAccepted Nowhere bytes cause imported report
    → IfNone imported (IsNotAccepted bytes)
refused_is_not_accepted bytes cause imported report law is =
    of_none (λ read. IsOfAccepted Nowhere bytes read.0 read.1 is.layers)
    (IsOfRefused Nowhere bytes cause is.layers) (IsNotAccepted bytes) imported
    (law bytes cause is.layers) is.of_layers

-- ---- of what a call returned

-- of a file whose buffers share bytes
pub lent_fine : (share : Option ℕ) (names : Names) (bytes : List ℕ) (file : Lent)
    → ((names : Names) (bytes : List ℕ) (cause : Option Error) (found : Found)
    → IsOfRefused names bytes cause found → refusal_count found ≢ 0)
    → IsWholeLent share names bytes file → refusal_count file.report ≡ 0
    → IsSome file.imported
lent_fine share names bytes file law is none =
    there (λ read. (read.0, shared_bytes read.1.items)) file.imported
    (imported_without_refusals (said_by share) names bytes file.cause (lent_of file.imported)
    file.report law is none)

pub fine : (names : Names) (bytes : List ℕ) (file : Inspected)
    → ((names : Names) (bytes : List ℕ) (cause : Option Error) (found : Found)
    → IsOfRefused names bytes cause found → refusal_count found ≢ 0)
    → IsWholeReport names bytes file → refusal_count file.report ≡ 0
    → IsSome file.imported
fine names bytes file law is none =
    there (λ read. (read.0, bytes_of_each read.1.items)) file.imported
    (imported_without_refusals IsOfAccepted names bytes file.cause (imported_of file.imported)
    file.report law is none)

pub all_fine : {E : Type 0} (names : Names) (bytes : List ℕ) (made : Result Inspected E)
    → ((names : Names) (bytes : List ℕ) (cause : Option Error) (found : Found)
    → IsOfRefused names bytes cause found → refusal_count found ≢ 0)
    → IfOk made (IsWholeReport names bytes)
    → IfOk made (λ file. refusal_count file.report ≡ 0 → IsSome file.imported)
all_fine names bytes (Ok file) law is = fine names bytes file law is
all_fine names bytes (Err e) law is = tt

pub none_accepted : {E : Type 0} (bytes : List ℕ) (made : Result Inspected E)
    → ((bytes : List ℕ) (cause : Option Error) (found : Found)
    → IsOfRefused Nowhere bytes cause found → IsNotAccepted bytes)
    → IfOk made (IsWholeReport Nowhere bytes)
    → IfOk made (λ file. IfNone file.imported (IsNotAccepted bytes))
none_accepted bytes (Ok file) law is =
    nowhere (λ read. (read.0, bytes_of_each read.1.items)) file.imported (IsNotAccepted bytes)
    (refused_is_not_accepted bytes file.cause (imported_of file.imported) file.report law is)
none_accepted bytes (Err e) law is = tt

-- a file whose buffers have bytes of their own
pub all_its_own : {E : Type 0} (names : Names) (bytes : List ℕ) (file : Lent)
    (made : Result Inspected E) → IfOk made (λ own. own.report ≡ file.report)
    → IfOk made (λ own. own.cause ≡ file.cause)
    → IfOk made (λ own. imported_of own.imported ≡ lent_of file.imported)
    → IsWholeLent None names bytes file → IfOk made (IsWholeReport names bytes)
all_its_own names bytes file (Ok own) report cause imported is =
    of_its_own names bytes file own report cause imported is
all_its_own names bytes file (Err e) report cause imported is = tt

-- ---- with what was found in the text, or with nothing

pub of_cause : (bytes : List ℕ) (cause : Option Error) → is_some cause ≡ true
    → IsUnkeptOf bytes cause []
of_cause bytes None some = absurd (true≢false (sym some))
of_cause bytes (Some e) some = refl

pub of_none_cause : (bytes : List ℕ) (cause : Option Error) (found : Found)
    → is_some cause ≡ false → IsUnkept bytes found → IsUnkeptOf bytes cause found
of_none_cause bytes None found none is = is
of_none_cause bytes (Some e) found none is = absurd (true≢false none)

nothing_more : (found : Found) → found ≡ found ++ []
nothing_more [] = refl
nothing_more (f ∷ found) = ap (λ rest. f ∷ rest) (nothing_more found)

pub as_it_is : (bytes : List ℕ) (file : Lent) → IsUnkeptOf bytes file.cause []
    → IsWith bytes file file
as_it_is bytes file is = record {
  cause = refl;
  imported = refl;
  unkept = [];
  is_unkept = is;
  same = nothing_more file.report;
}

pub with_more : (bytes : List ℕ) (file whole : Lent) (unkept : Found)
    → whole.cause ≡ file.cause → whole.imported ≡ file.imported
    → is_some file.cause ≡ false → IsUnkept bytes unkept
    → whole.report ≡ file.report ++ unkept → IsWith bytes file whole
with_more bytes file whole unkept cause imported none is same = record {
  cause = cause;
  imported = imported;
  unkept = unkept;
  is_unkept = of_none_cause bytes file.cause unkept none is;
  same = same;
}

-- ---- what is found in the text

pub text_found : {E : Type 0} (bytes text : List ℕ) (made : Result Found E)
    → ((other : List ℕ) (blob : Option (List ℕ)) → AreParts bytes other blob → other ≡ text)
    → IfOk made (λ found. (d : json.Data) → Reads text d
    → found ≡ findings_of [] (unkept_checks d))
    → IfOk made (IsUnkept bytes)
text_found bytes text (Ok found) only finds = λ other blob d parts reads.
    finds d (subst (λ (t : List ℕ). Reads t d) (only other blob parts) reads)
text_found bytes text (Err e) only finds = tt

pub no_text : (bytes : List ℕ) (found : Found)
    → ((text : List ℕ) (blob : Option (List ℕ)) → AreParts bytes text blob → ⊥)
    → IsUnkept bytes found
no_text bytes found none = λ text blob d parts reads. absurd (none text blob parts)
