-- The object of an entry has no float and no object within it.
use Rattle.std.specs.Prelude.{ℕ, ◌+◌, codes}
use Rattle.serde_json.specs.Data.{Members, no_members, number, string, unsigned}
use Rattle.json_objects.specs.Texts.{ArePlain, IsPlain, most_levels}
use Rattle.json_objects.proofs.Plain.{flag_plain, member_plain, no_members_plain, number_if_plain, number_plain}
use Rattle.json_objects.proofs.Plain.{object_plain, text_if_plain, text_plain}
use Rattle.entry_records.specs.Fields.{EntryFields}
use Rattle.entry_records.specs.Objects.{entry_data, entry_members, lever_members, reply_members}

reply_plain : (levels : ℕ) (fields : EntryFields) → ArePlain levels (reply_members fields)
reply_plain levels fields =
    member_plain levels _ _ _ (text_plain levels _)
    (text_if_plain levels (codes "says") fields.says _
    (text_if_plain levels (codes "train") fields.train _ (no_members_plain levels)))

lever_plain : (levels : ℕ) (fields : EntryFields) → ArePlain levels (lever_members fields)
lever_plain levels fields =
    number_if_plain levels (codes "lever") fields.lever _
    (member_plain levels _ _ _ (number_plain levels _)
    (text_if_plain levels (codes "place") fields.place _ (reply_plain levels fields)))

members_plain : (levels : ℕ) (fields : EntryFields) → ArePlain levels (entry_members fields)
members_plain levels fields =
    member_plain levels _ _ _ (text_plain levels _)
    (member_plain levels _ _ _ (text_plain levels _)
    (member_plain levels _ _ _ (text_plain levels _)
    (member_plain levels _ _ _ (flag_plain levels _) (lever_plain levels fields))))

-- it may stand in values that nest so deep
pub entry_within : (levels : ℕ) (fields : EntryFields) → IsPlain (levels + 1) (entry_data fields)
entry_within levels fields = object_plain levels _ (members_plain levels fields)

-- the object of an entry has a text that is read back
pub entry_plain : (fields : EntryFields) → IsPlain most_levels (entry_data fields)
entry_plain fields = entry_within 126 fields
