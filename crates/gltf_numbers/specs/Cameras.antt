-- The numbers of cameras (glTF 2.0, section 3.10, "Cameras").
use Rattle.std.specs.Prelude.{Option, Some}
use Rattle.gltf_json_scene.specs.declared.camera.Orthographic.{Orthographic as OrthographicRecord}
use Rattle.gltf_json_scene.specs.declared.camera.Perspective.{Perspective as PerspectiveRecord}
use Rattle.gltf_numbers.specs.Numbers.{given, number_if, required_number}
use Rattle.gltf_numbers.specs.declared.camera.Orthographic.{Orthographic}
use Rattle.gltf_numbers.specs.declared.camera.Perspective.{Perspective}

-- of an orthographic projection, each of which is required (section 5.13)
abbrev pub orthographic_numbers : OrthographicRecord → Option Orthographic
orthographic_numbers o =
    given (required_number o.xmag) (λ xmag.
    given (required_number o.ymag) (λ ymag.
    given (required_number o.zfar) (λ zfar.
    given (required_number o.znear) (λ znear.
    Some (record { xmag = xmag; ymag = ymag; zfar = zfar; znear = znear })))))

-- of a perspective projection, two of which are required (section 5.14)
abbrev pub perspective_numbers : PerspectiveRecord → Option Perspective
perspective_numbers p =
    given (number_if p.aspect_ratio) (λ aspect_ratio.
    given (required_number p.yfov) (λ yfov.
    given (number_if p.zfar) (λ zfar.
    given (required_number p.znear) (λ znear.
    Some (record { aspect_ratio = aspect_ratio; yfov = yfov; zfar = zfar; znear = znear })))))
