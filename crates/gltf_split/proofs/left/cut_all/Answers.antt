use Rattle.std.proofs.Common.{◌≡◌, ◌∷◌, [], ◌++◌, ◌∙◌, ◌+◌, ap, arith, rules, length, drop}
use Rattle.std.proofs.Common.{Option, ℕ}
use Rattle.std.proofs.lemmas.Grind.{common_steps}
use Rattle.std.proofs.lemmas.List.{length_push}
use Rattle.gltf_buffers.specs.declared.data.Data.{Data}
use Rattle.gltf_trim.specs.Trimmed.{first}
use Rattle.gltf_trimmed.specs.Laws.{cut}
use Rattle.gltf_split.proofs.Made.{left_more}
use Rattle.gltf_split.proofs.left.cut_all.Goals as goal

pub buffers-preserved : goal.buffers-preserved
buffers-preserved c =
    let ls = c.args.lengths.now in
    let far = c.buffers in
    let b = c.in-Some.bytes in
    let d : Data = record { 0 = c.in_ok-bytes.bytes } in
    let all : c.push.new.self.items ≡ far.all.items ++ d ∷ [] = search rules in
    let long : c.len-index.result ≡ length far.yielded = grind (arith, common_steps) in
    let here : c.in_ok-bytes.bytes.items ≡ cut (first (drop (length far.yielded) ls)) b.items =
    c.in_ok-bytes.ensures
    ∙ ap (λ (o : Option ℕ). cut o b.items) c.length_at.ensures
    ∙ ap (λ (n : ℕ). cut (first (drop n ls)) b.items) long in
    let one = length_push far.all.items d in
    let other = length_push far.yielded b in
    let count = far.invariant.count in
    record {
      count = rw all (omega (arith, one, other, count));
      bytes = rw all (left_more ls far.all.items far.yielded b d far.invariant.bytes here);
    }
