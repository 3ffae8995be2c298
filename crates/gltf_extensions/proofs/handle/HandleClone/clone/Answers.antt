use Rattle.std.proofs.Common.{ap}
use Rattle.gltf_validation.specs.Documents.{counts_of}
use Rattle.gltf_validation.specs.Rules.{Hold, Hold-prop}
use Rattle.gltf_extensions.specs.declared.handle.Handle.{Handle}
use Rattle.gltf_extensions.proofs.handle.HandleClone.clone.Goals as goal

-- two handles with the same document and the same record are the same: that their rules hold has
-- one proof at most
pub returns : goal.returns
returns g c =
    let with : Hold (g.R.Validate.rules (counts_of (g.D.Records.root c.args.self.now.document.now))
    c.args.self.now.json) → Handle g.row.R.Denot g.row.D.Denot g.R.Validate g.D.Records =
    λ h. record {
      document = c.args.self.now.document;
      json = c.args.self.now.json;
      holds = h;
    } in record {
      cases = ap with
          (Hold-prop (g.R.Validate.rules
          (counts_of (g.D.Records.root c.args.self.now.document.now)) c.args.self.now.json) _
          c.args.self.now.holds);
    }
