use Rattle.std.proofs.Common.{refl, inr}
use Rattle.std.specs.Prelude.{None}
use Rattle.gltf_names.specs.Named.{named}
use Rattle.gltf_shared.proofs.Asked.{held_ok, failure_at}
use Rattle.gltf_shared.proofs.held.Held.read.Goals as goal

pub returns-in_ok-clone-in-Some-Bytes-clause-ok : goal.returns-in_ok-clone-in-Some-Bytes-clause-ok
returns-in_ok-clone-in-Some-Bytes-clause-ok g c =
    let same = rw c.in-Some-Bytes.field-0-is at c.in_ok-clone-in-Some-Bytes.ensures.cases in
    held_ok (g.N.AskUpTo.names c.args.names.now) c.args.self.now (named c.args.name)
    c.in-Some-Bytes.field-0.now c.in-Some-Bytes.data c.in_ok-clone-in-Some-Bytes.field-0
    c.requires c.in-Some-Bytes.ensures c.in-Some-Bytes.field-0-is
    same

pub returns-in-Some-Failed-clause-err : goal.returns-in-Some-Failed-clause-err
returns-in-Some-Failed-clause-err g c =
    c.requires (named c.args.name) None
    (failure_at c.args.self.now (named c.args.name) c.in-Some-Failed.field-0.now _
    c.in-Some-Failed.ensures c.in-Some-Failed.field-0-is)

pub returns-in-Some-Failed-clause-noted : goal.returns-in-Some-Failed-clause-noted
returns-in-Some-Failed-clause-noted g c = (
  named c.args.name,
  refl,
  inr (
    failure_at c.args.self.now (named c.args.name) c.in-Some-Failed.field-0.now _
        c.in-Some-Failed.ensures c.in-Some-Failed.field-0-is,
    refl,
  ),
)
