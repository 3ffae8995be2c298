use Rattle.std.proofs.Common.{◌≡◌, ◌∷◌, ◌++◌, map, take, string_bytes}
use Rattle.json.specs.Token.{begin_array, key, string}
use Rattle.gltf_report_json.proofs.info.take_names.Given as goal

-- the names so far are written
abbrev pub invariant-loop-one : goal.invariant-loop-one
invariant-loop-one g l =
    (g.W.TakesTokens.before l.out ≡ g.W.TakesTokens.before l.fn.out)
    × (g.W.TakesTokens.taken l.out
    ≡ g.W.TakesTokens.taken l.fn.out
    ++ key l.fn.name ∷ begin_array ∷ map (λ s. string (string_bytes s)) (take l.one-index l.names))
