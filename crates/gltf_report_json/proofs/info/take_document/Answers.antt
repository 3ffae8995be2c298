use Rattle.std.proofs.Common.{◌≡◌, [], ◌∷◌, ◌++◌, vec_len, string_bytes, codes, rules}
use Rattle.json.specs.Token.{begin_object, end_object}
use Rattle.gltf_report_json.specs.Held.{in_64_bits, total_vertex_count}
use Rattle.gltf_report_json.specs.Reported.{text_member, number_member}
use Rattle.gltf_report_json.specs.Reported.{front_members, flag_members}
use Rattle.gltf_report_json.proofs.Appended.{joined}
use Rattle.gltf_report_json.proofs.info.take_document.Goals as goal

pub returns-clause-taken : goal.returns-clause-taken
returns-clause-taken g c =
    let s = g.W.TakesTokens.taken in
    let x1 = begin_object ∷ [] in
    let e1 : s c.take.new.self ≡ s c.args.out.now ++ x1 =
    search (rules, c.in_ok-take.ensures.taken) in
    let x2 = front_members c.args.root.now in
    let e2 : s c.take_front.new.out ≡ s c.take.new.self ++ x2 =
    c.in_ok-take_front.ensures.taken in
    let x3 = flag_members c.args.root.now in
    let e3 : s c.take_flags.new.out ≡ s c.take_front.new.out ++ x3 =
    c.in_ok-take_flags.ensures.taken in
    let x4 = number_member (codes "materialCount") (vec_len c.args.root.now.materials) in
    let e4 : s c.take_number.new.out ≡ s c.take_flags.new.out ++ x4 =
    search (rules, c.in_ok-take_number.ensures.taken, c.len.ensures) in
    let vertices = in_64_bits (total_vertex_count c.args.root.now) in
    let x5 = number_member (codes "totalVertexCount") vertices in
    let e5 : s c.take_number-2.new.out ≡ s c.take_number.new.out ++ x5 =
    search (rules, c.in_ok-take_number-2.ensures.taken, c.vertices.ensures) in
    let x6 = text_member (codes "version") (string_bytes c.args.root.now.asset.version) in
    let e6 : s c.take_text.new.out ≡ s c.take_number-2.new.out ++ x6 =
    search (rules, c.in_ok-take_text.ensures.taken, c.as_str.ensures) in
    let x7 = end_object ∷ [] in
    let e7 : s c.take-2.new.self ≡ s c.take_text.new.out ++ x7 =
    search (rules, c.in_ok-take-2.ensures.taken) in
    let y7 = x7 in
    let b6 = joined (s c.take_number-2.new.out) x6 y7 e6 e7 in
    let y6 = x6 ++ y7 in
    let b5 = joined (s c.take_number.new.out) x5 y6 e5 b6 in
    let y5 = x5 ++ y6 in
    let b4 = joined (s c.take_flags.new.out) x4 y5 e4 b5 in
    let y4 = x4 ++ y5 in
    let b3 = joined (s c.take_front.new.out) x3 y4 e3 b4 in
    let y3 = x3 ++ y4 in
    let b2 = joined (s c.take.new.self) x2 y3 e2 b3 in
    let y2 = x2 ++ y3 in
    joined (s c.args.out.now) x1 y2 e1 b2
