-- The text and the blob of a file, and of what it is repacked to.
use Rattle.std.proofs.Common.{◌≡◌, ◌≢◌, ◌<◌, ◌^◌, ℕ, List, Option, None, Ok, Bool}
use Rattle.std.proofs.Common.{true, false, MatchBool, option_map, nat_eq, sym, subst}
use Rattle.std.proofs.Common.{◌∙◌, arith, inl, inr}
use Rattle.std.specs.List.{starts_with}
use Rattle.gltf_glb.specs.Bytes.{magic, padded}
use Rattle.gltf_glb.specs.Container.{IsContainer}
use Rattle.gltf_glb.specs.Glb.{RefusesToWrite}
use Rattle.gltf_glb.specs.Laws.{ReadsBack, FilledOnce}
use Rattle.gltf_glb.specs.Written.{container_bytes, total_of}
use Rattle.gltf_glb.specs.declared.error.Error.{Error}
use Rattle.gltf_glb.specs.declared.error.Error.TheVariants.{Memory}
use Rattle.gltf.specs.Import.{AreParts, RefusesContainer}
use Rattle.gltf.specs.Laws.{OneTextAndBlob}
use Rattle.gltf_pack.specs.Repacked.{IsRepacked, RefusesToRepack, HasNoAnswer}
use Rattle.gltf_pack.specs.Laws.{RepackedAgain, OneAnswer}

-- what has parts has no fault of a container
pub no_fault : (bytes text : List ℕ) (blob : Option (List ℕ)) (e : Error)
    → AreParts bytes text blob → RefusesContainer bytes e → ⊥
unfolding AreParts
no_fault bytes text blob e parts refused =
    let container = rw refused.begins at parts in
    let apart = refused.fault.only (Ok (text, blob)) container in cc

-- what is written has the parts, filled up
pub parts_written : ReadsBack → (text : List ℕ) (blob : Option (List ℕ))
    → total_of text blob < 2 ^ 32
    → AreParts (container_bytes text blob) (padded 32 text) (option_map (padded 0) blob)
unfolding AreParts
parts_written law text blob fits = law text blob fits

pub answer_parts : ReadsBack → (bytes answer : List ℕ) (is : IsRepacked bytes answer)
    → AreParts answer (padded 32 is.text) (option_map (padded 0) is.blob)
answer_parts law bytes answer is =
    subst (λ t. AreParts t (padded 32 is.text) (option_map (padded 0) is.blob)) (sym is.written)
    (parts_written law is.text is.blob is.fits)

pub one_answer : OneTextAndBlob → OneAnswer
one_answer law bytes answer is other also =
    let same = law bytes is.text also.text is.blob also.blob is.parts also.parts in
    also.written ∙ (λ i. container_bytes (same.0 i) (same.1 i)) ∙ sym is.written

-- parts that fit are refused only for lack of memory
memory_alone : (text : List ℕ) (blob : Option (List ℕ)) (e : Error) → total_of text blob < 2 ^ 32
    → RefusesToWrite text blob e → e ≡ Memory
memory_alone text blob e fits (inl long) = let past = long.2 in absurd (omega arith)
memory_alone text blob e fits (inr memory) = memory.0

-- what is repacked is refused only for lack of memory
pub only_memory : OneTextAndBlob → (bytes answer : List ℕ) (e : Error) → IsRepacked bytes answer
    → RefusesToRepack bytes e → e ≡ Memory
only_memory law bytes answer e is (inl refused) =
    absurd (no_fault bytes is.text is.blob e is.parts refused)
only_memory law bytes answer e is (inr refused) =
    let same = law bytes is.text refused.text is.blob refused.blob is.parts refused.parts
    in
    let long : total_of refused.text refused.blob ≡ total_of is.text is.blob =
    λ i. total_of (same.0 i) (same.1 i) in
    let fits = is.fits in
    memory_alone refused.text refused.blob e (omega arith) refused.refused

pub no_answer : OneTextAndBlob → (bytes : List ℕ) (e : Error) → RefusesToRepack bytes e → e ≢ Memory
    → HasNoAnswer bytes
no_answer law bytes e refused other answer is = other (only_memory law bytes answer e is refused)

pub repacked_again : OneTextAndBlob → ReadsBack → FilledOnce → RepackedAgain
repacked_again law back once bytes answer is =
    let filled = once is.text is.blob in
    let fits = is.fits in
    let total = filled.0 in
    let same : IsRepacked answer answer = record {
      text = padded 32 is.text;
      blob = option_map (padded 0) is.blob;
      parts = answer_parts back bytes answer is;
      fits = omega arith;
      written = is.written ∙ sym filled.1;
    } in
    record {
      same = same;
      only = one_answer law answer answer same;
      memory = λ e refused. only_memory law answer answer e same refused;
    }
