-- The state behind a page of a read (native_protocol_v4.spec, section 8): a byte 1, and the bytes of the page's last row.
use Rattle.std.specs.Prelude.{◌≡◌, ℕ, ◌==◌, ◌&&◌, nat_le, List, [], ◌∷◌, Result, Ok, Err, if◌then◌else◌, length}
use Rattle.page_state.specs.declared.state.PagingError.{PagingError}
use Rattle.page_state.specs.declared.state.PagingError.TheVariants as error

abbrev pub state_of : List ℕ → List ℕ
state_of row = 1 ∷ row

abbrev pub most_row_bytes : ℕ
most_row_bytes = 65535

abbrev pub row_in : List ℕ → Result (List ℕ) PagingError
row_in [] = Err error.BadPaging
row_in (b ∷ row) = if b == 1 && nat_le (length row) most_row_bytes then Ok row else Err error.BadPaging

-- What was answered is this, but that memory may have run out for a row
abbrev pub Answers : Result (List ℕ) PagingError → Result (List ℕ) PagingError → Type 0
Answers (Ok row) meaning = meaning ≡ Ok row
Answers (Err error.BadPaging) meaning = meaning ≡ Err error.BadPaging
Answers (Err error.NoMemory) meaning = (row : List ℕ) × (meaning ≡ Ok row)
