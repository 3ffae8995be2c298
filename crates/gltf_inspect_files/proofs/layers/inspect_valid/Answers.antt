use Rattle.std.proofs.Common.{inr, subst}
use Rattle.gltf_buffers.specs.Shown.{blob_bytes}
use Rattle.gltf_inspect_files.specs.Layers.{IsRead, IsSharedRead, SomeFail}
use Rattle.gltf_inspect_files.proofs.layers.inspect_valid.Goals as goal

pub returns-in-Fail-clause-records : goal.returns-in-Fail-clause-records
returns-in-Fail-clause-records g c =
    let names = g.N.AskUpTo.names c.args.names.now in
    let blob = blob_bytes c.args.blob in
    let fail : SomeFail names c.args.document blob c.args.records c.in-Fail.report =
    subst (IsRead names c.args.document blob c.args.records) c.in-Fail.is
    c.in_ok-buffers.ensures.read in
    λ bytes document only. inr (record {
      root = c.args.document;
      blob = blob;
      valid = record { document = document; rules = c.requires.rules };
      only = only;
      answers = fail.answers;
      each = fail.each;
      told = fail.told;
      some = fail.some;
      same = rw (← c.requires.records) fail.same;
    })

pub returns-in-Had-clause-shared : goal.returns-in-Had-clause-shared
returns-in-Had-clause-shared g c =
    subst (IsSharedRead c.args.document) c.in-Had.is c.in_ok-buffers.ensures.shared
