-- The bytes that a string keeps, wherever they lie.
use Rattle.std.specs.Prelude.{ℕ, List, string_bytes, take}
use Rattle.cs_base.specs.declared.bytes.Short.{Short}
use Rattle.cs_base.specs.declared.bytes.Kept.{Kept}
use Rattle.cs_base.specs.declared.bytes.Kept.TheVariants.{Inline, Shared, Owned}
use Rattle.cs_base.specs.declared.text.KeptText.{KeptText}
use Rattle.cs_base.specs.declared.text.KeptText.TheVariants as text

-- the bytes that are in use, in a value that has room for more
abbrev pub short_bytes : Short → List ℕ
short_bytes short = take short.len short.bytes

abbrev pub bytes_kept : Kept → List ℕ
bytes_kept (Inline short) = short_bytes short
bytes_kept (Shared bytes) = bytes.value.items
bytes_kept (Owned bytes) = bytes.items

abbrev pub text_kept : KeptText → List ℕ
text_kept (text.Inline short) = short.bytes
text_kept (text.Shared string) = string_bytes string.value
text_kept (text.Owned string) = string_bytes string
