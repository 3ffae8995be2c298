-- The first buffer with an error: it is that of all buffers.
use Rattle.std.proofs.Common.{ℕ, ◌≡◌, ◌⊎◌, ◌+◌, List, [], Result, Ok, Err, length, map, sym}
use Rattle.std.proofs.Common.{subst, ◌∙◌}
use Rattle.std.specs.Prelude.{Option, Some, slice_get}
use Rattle.std.specs.declared.alloc.Global.{Global}
use Rattle.std.specs.declared.rc.Rc.{Rc}
use Rattle.std.proofs.lemmas.List.{length-map}
use Rattle.gltf_glb.specs.declared.error.Error.{Error}
use Rattle.gltf_glb.specs.declared.error.Error.TheVariants as error
use Rattle.gltf_names.specs.Named.{Named}
use Rattle.gltf_buffers.specs.declared.data.Data.{Data}
use Rattle.gltf_buffers.specs.Buffers.{Source, IsBytesOf, LeadsTo, HasBufferFault, IsAskedFor}
use Rattle.gltf_buffers.specs.Buffers.{blob_for, name_at}
use Rattle.gltf_buffers.specs.Each.{AreAnswers}
use Rattle.gltf_buffers.specs.EachLaws.{FirstErrorIsThatOfAll}
use Rattle.gltf_buffers.specs.Errors.{FailsOrNames}
use Rattle.gltf_buffers.specs.Names.{Names}
use Rattle.gltf_shared.specs.Asked.{Notes}
use Rattle.gltf_shared.specs.Given.{NoneFailed}
use Rattle.gltf_shared.specs.declared.held.Held.{Held}
use Rattle.gltf_shared.proofs.Answers.{is_answer}
use Rattle.gltf_shared.proofs.Noted.{first_noted}
use Rattle.gltf_shared.proofs.Walked.{one_answered}

pub refused : (names : Names) (sources : List Source) (blob : Option (List ℕ)) (n : ℕ)
    (before : List (List ℕ)) (s : Source) (e : Error) (held : Held) (old new : List Named)
    → FirstErrorIsThatOfAll → NoneFailed held
    → AreAnswers names sources blob n (map Ok before) → slice_get sources n ≡ Some s
    → ((failed : List Named) × FailsOrNames
    (λ f. IsBytesOf names (blob_for sources blob n) n s (Err f)) (LeadsTo names s.uri) [] failed e)
    → Notes {X = Rc Data Global} (λ name. name_at s.uri ≡ Some name) held (Err e) old new
    → (e ≡ error.Memory) ⊎ FailsOrNames (HasBufferFault names sources blob)
    (IsAskedFor names sources blob) old new e
refused names sources blob n before s e held old new law none are there told noted =
    let is = is_answer names (blob_for sources blob n) n s (Err e) tt told in
    let far : length before ≡ n =
    sym (length-map {B = Result (List ℕ) Error} before Ok) ∙ are.count in
    first_noted (HasBufferFault names sources blob) (IsAskedFor names sources blob) s held old new
    e none
    (law names sources blob (n + 1) before e [] s
    (one_answered names sources blob n (map Ok before) s (Err e) are there is)
    (subst (λ k. slice_get sources k ≡ Some s) (sym far) there))
    noted
