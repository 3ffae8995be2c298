use Rattle.std.proofs.Common.{rules, refl}
use Rattle.std.specs.Prelude.{slice_get, None, Some}
use Rattle.gltf.specs.Shown.{bytes_of_each}
use Rattle.gltf_access.specs.Raw.{shown}
use Rattle.gltf_guide.proofs.bytes.raw.Goals as goal

pub returns-in_err-raw : goal.returns-in_err-raw
returns-in_err-raw c = record {
  raw = None;
  lie =
      c.in_err-raw.ensures.alike (slice_get (bytes_of_each c.args.buffers.now))
      (λ b given i is gave. search rules);
  bytes = rw c.from_residual.ensures refl;
  stride = rw c.from_residual.ensures refl;
}

pub returns : goal.returns
returns c = record {
  raw = Some (shown c.in_ok-raw.raw);
  lie =
      c.in_ok-raw.ensures.alike (slice_get (bytes_of_each c.args.buffers.now))
      (λ b given i is gave. search rules);
  bytes = refl;
  stride = refl;
}
