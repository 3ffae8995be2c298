use Rattle.std.proofs.Common.{◌++◌, List, ℕ, ap, subst, sym, ◌∙◌, append_assoc}
use Rattle.gltf_glb.specs.declared.binary.reading.Next.{Next}
use Rattle.gltf_glb.specs.Container.{spelled}
use Rattle.gltf_glb.specs.Steps.{IsNext}
use Rattle.gltf_glb.proofs.Chunks.{later_skip}
use Rattle.gltf_glb.proofs.Places.{stands_in_chunk, stands_behind}
use Rattle.gltf_glb.proofs.binary.reading.blob_of.Goals as goal

pub returns-in-Bin-clause-place : goal.returns-in-Bin-clause-place
returns-in-Bin-clause-place c =
    let place = c.chunks.invariant.place in
    let next = subst (λ (n : Next). IsNext c.chunks.left.now n) c.in-Bin.is
    c.in_ok-next_of.ensures in
    stands_behind c.args.chunks.now place.0 c.chunks.left.now c.in-Bin.blob place.1
    (stands_in_chunk c.chunks.left.now c.in-Bin.blob next.1)

pub chunks-preserved : goal.chunks-preserved
chunks-preserved c =
    let place = c.chunks.invariant.place in
    let next = subst (λ (n : Next). IsNext c.chunks.left.now n) c.in-Skip.is
    c.in_ok-next_of.ensures in record {
      later = λ answer later.
          c.chunks.invariant.later answer
          (later_skip c.chunks.left.now c.in-Skip.rest.now next.0 answer next.1 next.2 later);
      place = (
        place.0 ++ spelled next.0,
        place.1 ∙ ap (λ (t : List ℕ). place.0 ++ t) next.2
            ∙ sym (append_assoc place.0 (spelled next.0) c.in-Skip.rest.now),
      );
    }
