use Rattle.std.proofs.Common.{map}
use Rattle.gltf_json_record.proofs.UnknownMembers.{CopiedUpTo}
use Rattle.gltf_json_record.proofs.others.others.Given as goal

abbrev pub invariant-loop-name : goal.invariant-loop-name
invariant-loop-name l = CopiedUpTo (map (λ k. k.now) l.known) l.initial.name-iterator
    l.name-iterator l.others.entries
