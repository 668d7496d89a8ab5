-- How a page grows.
use Rattle.std.proofs.Common.{◌≡◌, ◌<◌, ◌∙◌, ℕ, List, [], ◌∷◌, ◌++◌, IsTrue, length}
use Rattle.std.proofs.Common.{reverse, subst, sym, refl, ap, arith}
use Rattle.std.proofs.Common.{◌-◌, append_assoc, append-nil, get_or, suc, take, take-suc}
use Rattle.std.proofs.lemmas.List.{length-reverse, reverse-append, take_all}
use Rattle.mark_up.specs.declared.tags.Tag.{Tag}
use Rattle.mark_up.specs.declared.tags.EmptyTag.{EmptyTag}
use Rattle.mark_up.specs.Attributes.{AttributeFields, names_differ}
use Rattle.mark_up.specs.Documents.{IsBegun, IsContent, IsDocument, empty_tag, end_tag, start_tag}
use Rattle.mark_up.specs.Escapes.{escaped}
use Rattle.mark_up.specs.Tags.{prolog}

-- what may be put behind any content
abbrev pub Follows : List ℕ → Type 0
Follows piece = (inner : List ℕ) → IsContent inner → IsContent (inner ++ piece)

outer_first : (a b c d : List ℕ) → a ++ b ++ c ++ d ≡ a ++ (b ++ c ++ d)
outer_first a b c d = ap (λ t. t ++ d) (append_assoc a b c) ∙ append_assoc a (b ++ c) d

moved : (text other : List ℕ) (tags : List Tag) → text ≡ other → IsBegun text tags → IsBegun other tags
moved text other tags same is = subst (λ t. IsBegun t tags) same is

-- a root begins
pub root_begins : (root : Tag) (attributes : List AttributeFields) → IsTrue (names_differ attributes)
    → IsBegun (prolog root ++ start_tag root attributes) (root ∷ [])
root_begins root attributes differ =
    moved _ _ _ (append-nil (prolog root ++ start_tag root attributes))
    (IsBegun.Root root attributes [] differ IsContent.Nothing)

-- an element begins
pub element_begins : (text : List ℕ) (tags : List Tag) (tag : Tag) (attributes : List AttributeFields)
    → IsTrue (names_differ attributes) → IsBegun text tags → IsBegun (text ++ start_tag tag attributes) (tag ∷ tags)
element_begins text tags tag attributes differ is =
    moved _ _ _ (append-nil (text ++ start_tag tag attributes))
    (IsBegun.Within text tags tag attributes [] differ is IsContent.Nothing)

-- what may follow any content is put behind a page
pub behind : (text piece : List ℕ) (tags : List Tag) → Follows piece → IsBegun text tags → IsBegun (text ++ piece) tags
behind text piece tags follows (IsBegun.Root root attributes inner differ content) =
    moved _ _ _ (sym (append_assoc (prolog root ++ start_tag root attributes) inner piece))
    (IsBegun.Root root attributes (inner ++ piece) differ (follows inner content))
behind text piece tags follows (IsBegun.Within before others tag attributes inner differ is content) =
    moved _ _ _ (sym (append_assoc (before ++ start_tag tag attributes) inner piece))
    (IsBegun.Within before others tag attributes (inner ++ piece) differ is (follows inner content))

-- some element has begun
pub some : (text : List ℕ) (tags : List Tag) → IsBegun text tags → 0 < length tags
some text tags (IsBegun.Root root attributes inner differ content) = omega arith
some text tags (IsBegun.Within before others tag attributes inner differ is content) = omega arith

-- the innermost element, which isn't the root, ends
pub element_ends : (text : List ℕ) (tag : Tag) (tags : List Tag) → 0 < length tags → IsBegun text (tag ∷ tags)
    → IsBegun (text ++ end_tag tag) tags
element_ends text tag tags more (IsBegun.Root root attributes inner differ content) = absurd (omega (arith, more))
element_ends text tag tags more (IsBegun.Within before others its attributes inner differ is content) =
    moved _ _ _ (sym (outer_first before (start_tag its attributes) inner (end_tag its)))
    (behind before (start_tag its attributes ++ inner ++ end_tag its) others
    (λ outer outer_is. subst IsContent (outer_first outer (start_tag its attributes) inner (end_tag its))
    (IsContent.Element outer inner its attributes differ outer_is content)) is)

-- the root ends
pub root_ends : (text : List ℕ) (root : Tag) → IsBegun text (root ∷ []) → IsDocument (text ++ end_tag root)
root_ends text root (IsBegun.Root its attributes inner differ content) = record {
  root = its;
  attributes = attributes;
  differ = differ;
  inner = inner;
  content = content;
  shape = refl;
}
root_ends text root (IsBegun.Within before others its attributes inner differ is content) =
    absurd (omega (arith, some before others is))

pub said_in : (text : List ℕ) → Follows (escaped text)
said_in text inner is = IsContent.Text inner text is

pub put_in : (tag : EmptyTag) (attributes : List AttributeFields) → IsTrue (names_differ attributes)
    → Follows (empty_tag tag attributes)
put_in tag attributes differ inner is = IsContent.Empty inner tag attributes differ is

-- ---- as the fields of a page tell it, whose innermost tag stands last

last_first : (tags : List Tag) (tag : Tag) → reverse (tags ++ tag ∷ []) ≡ tag ∷ reverse tags
last_first tags tag = reverse-append tags (tag ∷ [])

innermost : (tags : List Tag) (d : Tag) → 0 < length tags
    → reverse tags ≡ get_or tags (length tags - 1) d ∷ reverse (take (length tags - 1) tags)
innermost tags d more =
    let last : ℕ = length tags - 1 in
    let whole : tags ≡ take last tags ++ get_or tags last d ∷ [] =
    sym (take_all (suc last) tags (omega (arith, more))) ∙ take-suc tags last d (omega (arith, more)) in
    ap reverse whole ∙ reverse-append (take last tags) (get_or tags last d ∷ [])

pub lone : (tags : List Tag) (d : Tag) → length (reverse tags) ≡ 1 → reverse tags ≡ get_or tags 0 d ∷ []
lone [] d one = absurd (omega (arith, one))
lone (tag ∷ []) d one = refl
lone (tag ∷ other ∷ tags) d one = absurd (omega (arith, one, length-reverse (tag ∷ other ∷ tags)))

pub begun : (text : List ℕ) (tags : List Tag) (root : Tag) (attributes : List AttributeFields)
    → IsTrue (names_differ attributes) → text ≡ prolog root ++ start_tag root attributes → tags ≡ root ∷ []
    → IsBegun text (reverse tags)
begun text tags root attributes differ d e =
    moved _ _ _ (sym d) (subst (λ t. IsBegun (prolog root ++ start_tag root attributes) (reverse t)) (sym e)
    (root_begins root attributes differ))

pub started : (text text2 : List ℕ) (tags tags2 : List Tag) (tag : Tag) (attributes : List AttributeFields)
    → IsTrue (names_differ attributes) → IsBegun text (reverse tags) → text2 ≡ text ++ start_tag tag attributes
    → tags2 ≡ tags ++ tag ∷ [] → IsBegun text2 (reverse tags2)
started text text2 tags tags2 tag attributes differ is d e =
    moved _ _ _ (sym d) (subst (λ t. IsBegun (text ++ start_tag tag attributes) t)
    (sym (last_first tags tag) ∙ ap reverse (sym e)) (element_begins text (reverse tags) tag attributes differ is))

pub put_behind : (text text2 : List ℕ) (tags : List Tag) (tag : EmptyTag) (attributes : List AttributeFields)
    → IsTrue (names_differ attributes) → IsBegun text tags → text2 ≡ text ++ empty_tag tag attributes
    → IsBegun text2 tags
put_behind text text2 tags tag attributes differ is d =
    moved _ _ _ (sym d) (behind text (empty_tag tag attributes) tags (put_in tag attributes differ) is)

pub said_behind : (text text2 said : List ℕ) (tags : List Tag) → IsBegun text tags → text2 ≡ text ++ escaped said
    → IsBegun text2 tags
said_behind text text2 said tags is d = moved _ _ _ (sym d) (behind text (escaped said) tags (said_in said) is)

pub element_behind : (text text2 said : List ℕ) (tags : List Tag) (tag : Tag) (attributes : List AttributeFields)
    → IsTrue (names_differ attributes) → IsBegun text tags
    → text2 ≡ text ++ start_tag tag attributes ++ escaped said ++ end_tag tag → IsBegun text2 tags
element_behind text text2 said tags tag attributes differ is d =
    let inner : IsContent (escaped said) = IsContent.Text [] said IsContent.Nothing in
    moved _ _ _ (sym (outer_first text (start_tag tag attributes) (escaped said) (end_tag tag)) ∙ sym d)
    (behind text (start_tag tag attributes ++ escaped said ++ end_tag tag) tags
    (λ outer outer_is. subst IsContent (outer_first outer (start_tag tag attributes) (escaped said) (end_tag tag))
    (IsContent.Element outer (escaped said) tag attributes differ outer_is inner)) is)

pub same : (text text2 : List ℕ) (tags : List Tag) → IsBegun text tags → text2 ≡ text → IsBegun text2 tags
same text text2 tags is d = moved _ _ _ (sym d) is

-- where the innermost of several elements that stand open ends, the page is begun within those around it
pub ended : (text text2 : List ℕ) (tags tags2 : List Tag) (tag : Tag) → 1 < length (reverse tags)
    → IsBegun text (reverse tags) → tag ≡ get_or tags (length tags - 1) tag → tags2 ≡ take (length tags - 1) tags
    → text2 ≡ text ++ end_tag tag → IsBegun text2 (reverse tags2)
ended text text2 tags tags2 tag more is at e d =
    let long : 1 < length tags = omega (arith, more, length-reverse tags) in
    let first : reverse tags ≡ tag ∷ reverse tags2 =
    innermost tags tag (omega (arith, long)) ∙ ap (λ t. t ∷ reverse (take (length tags - 1) tags)) (sym at)
    ∙ ap (λ t. tag ∷ reverse t) (sym e) in
    let left : 0 < length (reverse tags2) = omega (arith, more, ap length first) in
    moved _ _ _ (sym d) (element_ends text tag (reverse tags2) left (subst (λ t. IsBegun text t) first is))

-- a page whose root alone stands open is a document once the root ends
pub finished : (text text2 : List ℕ) (tags : List Tag) (root : Tag) → length (reverse tags) ≡ 1
    → IsBegun text (reverse tags) → root ≡ get_or tags 0 root → text2 ≡ text ++ end_tag root → IsDocument text2
finished text text2 tags root one is at d =
    subst IsDocument (sym d) (root_ends text root (subst (λ t. IsBegun text t)
    (lone tags root one ∙ ap (λ t. t ∷ []) (sym at)) is))

pub ruleset page_rules = (begun, started, put_behind, said_behind, element_behind, same)
