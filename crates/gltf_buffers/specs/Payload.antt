-- The bytes that a payload spells (glTF 2.0, section 2.8; RFC 4648, section 4).
use Rattle.std.specs.Prelude.{◌≡◌, ℕ, ◌%◌, ◌==◌, List, ◌++◌, length, replicate, Result, Err}
use Rattle.std.specs.Prelude.{if◌then◌else◌, ⊤}
use Rattle.base64.specs.GeneralPurpose.{decode_of}
use Rattle.base64.specs.Engines.{standard}
use Rattle.base64.specs.declared.decode.DecodeError.{DecodeError}
use Rattle.base64.specs.declared.decode.DecodeAllocError.{DecodeAllocError}
use Rattle.base64.specs.declared.decode.DecodeAllocError.TheVariants.{DecodeError as Failed}
use Rattle.base64.specs.declared.decode.DecodeAllocError.TheVariants.{OutOfMemory}

-- `=`
abbrev pub padding_sign : ℕ
padding_sign = 61

-- how many `=` are appended to a text of n bytes
abbrev pub missing_signs : ℕ → ℕ
missing_signs n = if n % 4 == 2 then 2 else if n % 4 == 3 then 1 else 0

-- the text with these appended
abbrev pub completed_text : List ℕ → List ℕ
completed_text text = text ++ replicate (missing_signs (length text)) padding_sign

-- the bytes that it spells then, or the fault
unfoldable pub payload_bytes : List ℕ → Result (List ℕ) DecodeError
payload_bytes text = decode_of standard (completed_text text)

-- what an error says of the payload
abbrev pub IsFailure : List ℕ → DecodeAllocError → Type 0
IsFailure text (Failed fault) = payload_bytes text ≡ Err fault
IsFailure text OutOfMemory = ⊤
