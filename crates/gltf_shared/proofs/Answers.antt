-- What one call says of a buffer is its answer.
use Rattle.std.proofs.Common.{ℕ, List, [], Result, Ok, Err, refl}
use Rattle.std.specs.Prelude.{Option, IfOk, IfErr}
use Rattle.std.specs.declared.alloc.Global.{Global}
use Rattle.std.specs.declared.rc.Rc.{Rc}
use Rattle.gltf_glb.specs.declared.error.Error.{Error}
use Rattle.gltf_glb.specs.declared.error.Error.TheVariants as error
use Rattle.gltf_names.specs.Named.{Named}
use Rattle.gltf_buffers.specs.declared.data.Data.{Data}
use Rattle.gltf_buffers.specs.Buffers.{Source, IsBytesOf, LeadsTo}
use Rattle.gltf_buffers.specs.Each.{IsAnswerFor}
use Rattle.gltf_buffers.specs.Errors.{FailsOrNames}
use Rattle.gltf_buffers.specs.Names.{Names}
use Rattle.gltf_shared.specs.Shown.{answer_of}

pub is_answer : (names : Names) (blob : Option (List ℕ)) (i : ℕ) (s : Source)
    (answer : Result (Rc Data Global) Error)
    → IfOk answer (λ read. IsBytesOf names blob i s (Ok read.value.0.items))
    → IfErr answer (λ e. (failed : List Named) × FailsOrNames
    (λ f. IsBytesOf names blob i s (Err f)) (LeadsTo names s.uri) [] failed e)
    → IsAnswerFor names blob i s (answer_of answer)
is_answer names blob i s (Ok read) ok told = ok
is_answer names blob i s (Err (error.Io cause)) ok told =
    (told.1.0, told.1.1, rw told.1.1.1 refl)
is_answer names blob i s (Err error.Memory) ok told = refl
is_answer names blob i s (Err e) ok told = (refl, told.1.1)
