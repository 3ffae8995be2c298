-- The number that a count stands for.
use Rattle.std.specs.Prelude.{ℕ, ◌+◌, ◌-◌}
use Rattle.gltf_items.specs.declared.count.Made.{Made}
use Rattle.gltf_items.specs.declared.count.Made.TheVariants.{Zero, Next, Same, Above}

-- the number, and a bound on how deep it is made of others
abbrev pub amount : Made → ℕ × ℕ
amount Zero = (0, 0)
amount (Next before) = (before.value.0 + 1, before.value.1 + 1)
amount (Same before) = (before.value.value.0, before.value.value.1 + 1)
amount (Above after before) =
    (after.value.value.0 - before.value.value.0, after.value.value.1 + before.value.value.1 + 1)
