-- The row of a journal's entry.
use Rattle.std.specs.Prelude.{ℕ, Bool, true, false, List, [], ◌∷◌, ◌++◌, Option, Some, None, codes, decimal, option_map}
use Rattle.entry_records.specs.Fields.{EntryFields}

-- the names of the columns: the keys of an entry's object
abbrev pub columns : List (List ℕ)
columns =
    codes "n" ∷ codes "box" ∷ codes "at" ∷ codes "call" ∷ codes "reply" ∷ codes "done" ∷ codes "lever"
    ∷ codes "place" ∷ codes "train" ∷ codes "says" ∷ []

-- a field that may be empty
abbrev pub field_if : Option (List ℕ) → List ℕ
field_if None = []
field_if (Some text) = text

-- true or false, as JSON has them
abbrev pub flag_text : Bool → List ℕ
flag_text true = codes "true"
flag_text false = codes "false"

-- the fields that name the call
abbrev pub call_fields : EntryFields → List (List ℕ)
call_fields fields = decimal fields.n ∷ fields.box_name ∷ fields.at ∷ fields.call ∷ fields.reply ∷ []

-- the fields of what the reply tells
abbrev pub reply_fields : EntryFields → List (List ℕ)
reply_fields fields =
    flag_text fields.done ∷ field_if (option_map (λ lever. decimal lever) fields.lever) ∷ field_if fields.place
    ∷ field_if fields.train ∷ field_if fields.says ∷ []

-- the fields of an entry's row, one for each column
abbrev pub entry_row : EntryFields → List (List ℕ)
entry_row fields = call_fields fields ++ reply_fields fields
