-- One byte of a text whose zeros are escaped.
use Rattle.std.specs.Prelude.{◌≡◌, ℕ, ◌-◌, ◌==◌, ◌&&◌, List, if◌then◌else◌, nat_lt, nat_le, Option, Some, None}
use Rattle.std.specs.Str.{IsAscii, IsUtf8}
use Rattle.cql_values.specs.Value.{IsBytes}
use Rattle.cql_values.specs.Order.{escaped}
use Rattle.cql_values.specs.declared.value.CqlType.{CqlType}
use Rattle.cql_values.specs.declared.value.CqlType.TheVariants as types
use Rattle.cql_values.specs.declared.scan.Expected.{Expected}
use Rattle.cql_values.specs.declared.scan.Expected.TheVariants as expect
use Rattle.cql_values.specs.declared.scan.Move.{Move}
use Rattle.cql_values.specs.declared.scan.Move.TheVariants as moves

-- the types whose order bytes are escaped
abbrev pub IsEscapedType : CqlType → Type 0
IsEscapedType types.Ascii = Unit {0}
IsEscapedType types.Blob = Unit {0}
IsEscapedType types.Text = Unit {0}
IsEscapedType _ = ⊥

-- the types of texts
abbrev pub IsTextType : CqlType → Type 0
IsTextType types.Ascii = Unit {0}
IsTextType types.Text = Unit {0}
IsTextType _ = ⊥

-- the content of a value of the type
abbrev pub IsContent : CqlType → List ℕ → Type 0
IsContent types.Ascii content = IsAscii content
IsContent types.Blob content = IsBytes content
IsContent types.Text content = IsUtf8 content
IsContent _ content = ⊥

abbrev pub IsEscapedWord : CqlType → List ℕ → List ℕ → Type 0
IsEscapedWord ty word content = IsContent ty content × (word ≡ escaped content)

-- what a first byte of UTF-8 asks for (Unicode, table 3-7)
abbrev pub utf8_lead : ℕ → Option Expected
utf8_lead b =
    if nat_lt b 0x80 then Some expect.Character
    else (if nat_lt b 0xC2 then None
    else (if nat_lt b 0xE0 then Some (expect.Tail 0x80 0xBF 0)
    else (if b == 0xE0 then Some (expect.Tail 0xA0 0xBF 1)
    else (if b == 0xED then Some (expect.Tail 0x80 0x9F 1)
    else (if nat_lt b 0xF0 then Some (expect.Tail 0x80 0xBF 1)
    else (if b == 0xF0 then Some (expect.Tail 0x90 0xBF 2)
    else (if nat_lt b 0xF4 then Some (expect.Tail 0x80 0xBF 2)
    else (if b == 0xF4 then Some (expect.Tail 0x80 0x8F 2) else None))))))))

-- what the first byte of a character asks for
abbrev pub lead : CqlType → ℕ → Option Expected
lead types.Ascii b = if nat_lt b 0x80 then Some expect.Character else None
lead types.Text b = utf8_lead b
lead _ b = Some expect.Character

-- what a byte of the content asks for
abbrev pub after_byte : CqlType → Expected → ℕ → Option Expected
after_byte ty expect.Character b = lead ty b
after_byte ty expect.Escape b = None
after_byte ty (expect.Tail low high more) b =
    if nat_le low b && nat_le b high
    then Some (if more == 0 then expect.Character else expect.Tail 0x80 0xBF (more - 1))
    else None

abbrev pub pushed : ℕ → Option Expected → Move
pushed b None = moves.Bad
pushed b (Some next) = moves.Push b next

-- a byte of the order bytes
abbrev pub step_of : CqlType → Expected → ℕ → Move
step_of ty expect.Character b = if b == 0 then moves.Wait expect.Escape else pushed b (lead ty b)
step_of ty expect.Escape b = if b == 0 then moves.End else (if b == 255 then moves.Push 0 expect.Character else moves.Bad)
step_of ty (expect.Tail low high more) b = pushed b (after_byte ty (expect.Tail low high more) b)
