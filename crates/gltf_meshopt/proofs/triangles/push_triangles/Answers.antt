use Rattle.std.proofs.Common.{arith}
use Rattle.gltf_meshopt.proofs.TriangleRuns.{triangle_more, triangle_stops, triangles_end}
use Rattle.gltf_meshopt.proofs.triangles.push_triangles.Goals as goal

pub loop-code-preserved : goal.loop-code-preserved
loop-code-preserved c =
    rw (c.in_ok-push_index-3.ensures, c.in_ok-push_index-2.ensures, c.in_ok-push_index.ensures)
    (triangle_more c.args.stride c.loop-code.code-index c.args.table.now c.args.codes.now
    c.loop-code.state c.loop-code.out.items c.loop-code.rest.now _ c.loop-code.invariant
    c.in-Some.a c.in-Some.b c.in-Some.c c.triangle.new.state c.in-Some.following.now (omega
    arith) c.in-Some.ensures)

pub returns-in_default : goal.returns-in_default
returns-in_default c = triangle_stops c.args.stride c.loop-code.code-index c.args.table.now
    c.args.codes.now c.loop-code.state c.loop-code.out.items c.loop-code.rest.now _
    c.loop-code.invariant (omega arith) c.in_default.ensures

pub returns : goal.returns
returns c = triangles_end c.args.stride c.loop-code.code-index c.args.table.now c.args.codes.now
    c.loop-code.state c.loop-code.out.items c.loop-code.rest.now _ c.loop-code.invariant (omega
    arith)
