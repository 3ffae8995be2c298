-- What is said of a document without any name in `extensionsRequired`.
use Rattle.std.proofs.Common.{◌≡◌, [], Result, Ok, Err, subst, sym}
use Rattle.std.specs.Prelude.{IfOk, IfErr, OnOk}
use Rattle.gltf_glb.specs.declared.error.Error.{Error}
use Rattle.gltf_glb.specs.declared.error.Error.TheVariants as error
use Rattle.gltf_json.specs.declared.root.Root.{Root}
use Rattle.gltf_validation.specs.Documents.{Faults}
use Rattle.gltf.specs.Errors.{OutOfMemoryOr, TellsRules}
use Rattle.gltf_required.specs.Required.{IsBare, TellsBare}

told_bare : (r left : Root) (e : Error) → IsBare r left → OutOfMemoryOr (TellsRules left) e
    → OutOfMemoryOr (TellsBare r) e
told_bare r left error.Memory is told = tt
told_bare r left (error.Validation faults) is told = (left, is, told)
told_bare r left e is told = absurd told

pub refused : {T : Type 0} (r left : Root) (result : Result T Error) → IsBare r left
    → IfErr result (OutOfMemoryOr (TellsRules left)) → IfErr result (OutOfMemoryOr (TellsBare r))
refused r left (Ok d) is told = tt
refused r left (Err e) is told = told_bare r left e is told

pub same_rules : {E : Type 0} (r : Root) (result : Result Root E) → IfOk result (λ d. d ≡ r)
    → OnOk result (Faults r ≡ []) → IfOk result (λ d. Faults d ≡ [])
same_rules r (Ok d) same rules = subst (λ (x : Root). Faults x ≡ []) (sym same) rules
same_rules r (Err e) same rules = tt

pub bare : {E : Type 0} (r left : Root) (result : Result Root E) → IsBare r left
    → IfOk result (λ d. d ≡ left) → IfOk result (IsBare r)
bare r left (Ok d) is same = subst (IsBare r) (sym same) is
bare r left (Err e) is same = tt
