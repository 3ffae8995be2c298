use Rattle.std.proofs.Common.{length, refl, rules, tests}
use Rattle.std.proofs.lemmas.Iterator.{length_from_collect}
use Rattle.std.proofs.lemmas.Iterator.Consumers.{map_from_collect}
use Rattle.std.proofs.lemmas.Iterator.Splits.{YieldsList-from_slice_split}
use Rattle.gltf_c_open.specs.Names.{parts_of}
use Rattle.gltf_c_open.proofs.names.parts_of.Goals as goal

pub returns-clause-parts : goal.returns-clause-parts
returns-clause-parts c =
    map_from_collect _ c.collect.ensures.ran
    (YieldsList-from_slice_split _ _ c.args.block.now c.split.ensures.rest c.split.ensures.done
    c.split.ensures.closure (λ x r q k. search (rules, tests)))

pub returns-clause-count : goal.returns-clause-count
returns-clause-count c =
    length_from_collect _ (length (parts_of c.args.block.now)) c.collect.ensures.ran
    (YieldsList-from_slice_split _ _ c.args.block.now c.split.ensures.rest c.split.ensures.done
    c.split.ensures.closure (λ x r q k. search (rules, tests))) refl
