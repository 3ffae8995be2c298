use Rattle.std.proofs.Common.{◌≡◌, ◌==◌, ◌++◌, vec_len, not, is_some, codes, rules}
use Rattle.gltf_report_json.specs.Held.{has_morph_targets}
use Rattle.gltf_report_json.specs.Reported.{flag_member}
use Rattle.gltf_report_json.proofs.Appended.{joined}
use Rattle.gltf_report_json.proofs.info.take_flags.Goals as goal

pub returns-clause-taken : goal.returns-clause-taken
returns-clause-taken g c =
    let s = g.W.TakesTokens.taken in
    let x1 = flag_member (codes "hasDefaultScene") (is_some c.args.root.now.scene) in
    let e1 : s c.take_flag.new.out ≡ s c.args.out.now ++ x1 =
    search (rules, c.in_ok-take_flag.ensures.taken, c.is_some.ensures) in
    let x2 = flag_member (codes "hasMorphTargets") (has_morph_targets c.args.root.now) in
    let e2 : s c.take_flag-2.new.out ≡ s c.take_flag.new.out ++ x2 =
    search (rules, c.in_ok-take_flag-2.ensures.taken, c.has_targets.ensures) in
    let x3 = flag_member (codes "hasSkins") (not (vec_len c.args.root.now.skins == 0)) in
    let e3 : s c.take_flag-3.new.out ≡ s c.take_flag-2.new.out ++ x3 =
    search (rules, c.in_ok-take_flag-3.ensures.taken, c.is_empty.ensures) in
    let x4 = flag_member (codes "hasTextures") (not (vec_len c.args.root.now.textures == 0)) in
    let e4 : s c.take_flag-4.new.out ≡ s c.take_flag-3.new.out ++ x4 =
    search (rules, c.in_ok-take_flag-4.ensures.taken, c.is_empty-2.ensures) in
    let y4 = x4 in
    let b3 = joined (s c.take_flag-2.new.out) x3 y4 e3 e4 in
    let y3 = x3 ++ y4 in
    let b2 = joined (s c.take_flag.new.out) x2 y3 e2 b3 in
    let y2 = x2 ++ y3 in
    joined (s c.args.out.now) x1 y2 e1 b2
