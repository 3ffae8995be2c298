use Rattle.std.proofs.Common.{◌≡◌, drop}
use Rattle.gltf_inspect_unkept.specs.Laws.{none_is_sparse}
use Rattle.gltf_inspect_unkept.proofs.laws.none_is_sparse.Given as goal

-- what holds of those that are left holds of all
abbrev pub invariant-loop-accessor : goal.invariant-loop-accessor
invariant-loop-accessor l =
    none_is_sparse (drop l.accessor-index l.accessors) ≡ none_is_sparse l.accessors
