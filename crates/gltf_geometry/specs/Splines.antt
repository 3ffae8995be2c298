-- The outputs of a sampler with the interpolation CUBICSPLINE: an in-tangent, a value and an
-- out-tangent for each keyframe (glTF 2.0, appendix C, "Cubic Spline Interpolation").
use Rattle.std.specs.Prelude.{List, [], ◌∷◌}
use Rattle.gltf_geometry.specs.declared.cubic_spline.Keyframe.{Keyframe}

abbrev pub keyframes : {T : Type 0} → List T → List (Keyframe T)
keyframes [] = []
keyframes (in_tangent ∷ []) = []
keyframes (in_tangent ∷ value ∷ []) = []
keyframes (in_tangent ∷ value ∷ out_tangent ∷ outputs) =
    record { in_tangent = in_tangent; value = value; out_tangent = out_tangent }
    ∷ keyframes outputs
