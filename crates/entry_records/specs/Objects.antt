-- The JSON object of a journal's entry.
use Rattle.std.specs.Prelude.{codes, option_map}
use Rattle.serde_json.specs.Data.{Data, Members, boolean, member, no_members, number, object, string, unsigned}
use Rattle.json_objects.specs.Members.{member_if}
use Rattle.entry_records.specs.Fields.{EntryFields}

-- the members of its object from `reply` on
abbrev pub reply_members : EntryFields → Members
reply_members fields =
    member (codes "reply") (string fields.reply)
    (member_if (codes "says") (option_map string fields.says)
    (member_if (codes "train") (option_map string fields.train) no_members))

-- the members of its object from `lever` on
abbrev pub lever_members : EntryFields → Members
lever_members fields =
    member_if (codes "lever") (option_map (λ lever. number (unsigned lever)) fields.lever)
    (member (codes "n") (number (unsigned fields.n))
    (member_if (codes "place") (option_map string fields.place) (reply_members fields)))

-- the members of its object
abbrev pub entry_members : EntryFields → Members
entry_members fields =
    member (codes "at") (string fields.at)
    (member (codes "box") (string fields.box_name)
    (member (codes "call") (string fields.call)
    (member (codes "done") (boolean fields.done) (lever_members fields))))

-- the object of an entry, with its keys in the order of the alphabet
abbrev pub entry_data : EntryFields → Data
entry_data fields = object (entry_members fields)
