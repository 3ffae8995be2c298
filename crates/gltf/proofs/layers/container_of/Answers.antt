use Rattle.std.proofs.Common.{ℕ, sym, subst}
use Rattle.std.specs.Prelude.{IfOk, IfErr}
use Rattle.std.specs.declared.alloc.Global.{Global}
use Rattle.std.specs.declared.borrow.CowSlice.{CowSlice}
use Rattle.std.specs.Cow.{cow_slice_items}
use Rattle.gltf_glb.specs.Glb.{IsTakenFrom, RefusesOrRunsOut}
use Rattle.gltf.proofs.Parts.{taken_of_lent, refused_of_lent}
use Rattle.gltf.proofs.Room.{stays_of_lent}
use Rattle.gltf.proofs.layers.container_of.Goals as goal

pub returns-in-Borrowed-clause-parts : goal.returns-in-Borrowed-clause-parts
returns-in-Borrowed-clause-parts c =
    subst (λ (given : CowSlice ℕ Global). IfOk c.from_slice.result
    (IsTakenFrom (cow_slice_items given))) (sym c.in-Borrowed.is)
    (taken_of_lent c.in-Borrowed.bytes.now c.from_slice.result c.from_slice.ensures.parts)

pub returns-in-Borrowed-clause-fault : goal.returns-in-Borrowed-clause-fault
returns-in-Borrowed-clause-fault c =
    subst (λ (given : CowSlice ℕ Global). IfErr c.from_slice.result
    (RefusesOrRunsOut (cow_slice_items given))) (sym c.in-Borrowed.is)
    (refused_of_lent c.in-Borrowed.bytes.now c.from_slice.result c.from_slice.ensures.fault)

pub returns-in-Borrowed-clause-moved : goal.returns-in-Borrowed-clause-moved
returns-in-Borrowed-clause-moved c =
    rw c.in-Borrowed.is (stays_of_lent c.args.bytes c.from_slice.result)

pub returns-in-Owned-clause-moved : goal.returns-in-Owned-clause-moved
returns-in-Owned-clause-moved c = rw c.in-Owned.is c.from_vec.ensures.moved
