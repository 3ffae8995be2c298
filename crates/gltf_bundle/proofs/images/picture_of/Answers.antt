use Rattle.std.proofs.Common.{sym, ap, ◌∙◌, arith, ◌≡◌, length, Some, Option, ℕ, List, refl}
use Rattle.std.proofs.lemmas.Grind.{common_steps}
use Rattle.std.specs.Prelude.{option_copied}
use Rattle.gltf_bundle.specs.Media.{media_of}
use Rattle.std.proofs.lemmas.Result.{err_from_is_err_and}
use Rattle.serde_json.specs.View.{view}
use Rattle.gltf_bundle.proofs.Taken.{each_last, read_refused}
use Rattle.gltf_bundle.proofs.images.picture_of.Goals as goal

pub returns-clause-taken : goal.returns-clause-taken
returns-clause-taken g c =
    let bytes = c.in_ok-bytes.bytes in
    let uri = c.args.uri.now in
    let long : c.len.result ≡ length bytes.items = grind (arith, common_steps) in (
      bytes.items,
      record {
        uri = uri;
        there = c.requires;
        meant = c.in_ok-bytes.ensures.ok;
        long = long;
        media =
            ap (λ (o : Option (List ℕ)). media_of uri o bytes.items) (sym c.text_at.ensures)
            ∙ ap (media_of uri (option_copied c.text_at.result)) (sym c.deref.ensures.value)
            ∙ sym c.media_of.ensures
            ∙ ap option_copied c.in-Some.is
            ∙ ap (λ (xs : List ℕ). Some xs) (sym c.in_ok-from_str.ensures.ok);
      },
      each_last c.args.buffers.now.items c.push.new.self.items record { 0 = bytes }
          c.in_ok-push.ensures.items,
    )

pub returns-in_err-bytes-clause-refused : goal.returns-in_err-bytes-clause-refused
returns-in_err-bytes-clause-refused g c =
    let e = c.in_err-bytes.field-0.0 in
    let exit = c.from_residual in
    let passed = err_from_is_err_and exit.result exit.ensures.1 in
    rw (passed.1, passed.2) (
      read_refused (g.N.Ask.names c.args.names.now) c.args.index
          (g.N.Ask.failures c.args.names.now) (g.N.Ask.failures c.image_bytes.new.names)
          c.args.uri.now (view c.args.image.now) e c.requires c.in_err-bytes.ensures.refused,
      refl,
    )
