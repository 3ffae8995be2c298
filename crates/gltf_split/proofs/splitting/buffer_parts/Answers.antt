use Rattle.std.proofs.Common.{◌≡◌, ◌∷◌, [], ◌++◌, ◌∙◌, refl, ap, arith, rules, length}
use Rattle.std.proofs.lemmas.Grind.{common_steps}
use Rattle.gltf_detach.specs.Naming.{buffer_name}
use Rattle.gltf_detach.specs.declared.part.Part.{Part}
use Rattle.gltf_split.proofs.Made.{named_more, bytes_more}
use Rattle.gltf_split.proofs.splitting.buffer_parts.Goals as goal

pub buffers-preserved : goal.buffers-preserved
buffers-preserved c =
    let far = c.buffers in
    let p : Part = record { name = c.in_ok-name.name; bytes = c.in-Some.buffer.0 } in
    let parts : c.push.new.self.items ≡ far.parts.items ++ p ∷ [] = search rules in
    let long : c.len.result ≡ length far.parts.items = grind (arith, common_steps) in
    record {
      bytes =
          rw parts
          (bytes_more far.parts.items p far.yielded c.in-Some.buffer far.invariant.bytes refl);
      named =
          rw parts
          (named_more c.args.stem.now c.len-count.result far.parts.items p far.invariant.named
          (c.in_ok-name.ensures ∙ ap (buffer_name c.args.stem.now c.len-count.result) long));
    }
