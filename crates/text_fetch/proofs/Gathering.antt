-- One script after another.
use Rattle.std.proofs.Common.{◌≡◌, ℕ, zero, suc, ◌+◌, ◌<◌, ◌≤◌, List, [], ◌∷◌, ◌++◌, length, take, drop, get_or, map}
use Rattle.std.proofs.Common.{Some, slice_get, refl, sym, ap, subst, ◌∙◌, arith, add-one, drop-cons}
use Rattle.std.proofs.Common.{Result, slice_index_or}
use Rattle.std.specs.Borrow.{Bor}
use Rattle.std.specs.Global.{Vec}
use Rattle.std.proofs.Math.Seq.{get_or-append_seam}
use Rattle.std.proofs.lemmas.List.{get_or-take, length-append, length-take-le, take_more, take_all, take-append-drop}
use Rattle.rail_text.specs.Gives.{Fault}
use Rattle.line_plan.specs.Plans.{PlanFields}
use Rattle.script_text.specs.Scripts.{IsScriptOf, script_of}
use Rattle.script_text.specs.declared.script.Script.{Script}
use Rattle.text_fetch.specs.declared.stop.Stop.{Stop}
use Rattle.text_fetch.specs.declared.stop.Stop.TheVariants as stops
use Rattle.text_fetch.specs.FromTexts.{Held, FromTexts, Untold, Gives, Refuses, told_then, text_told, IsGiven}
use Rattle.text_fetch.specs.FromTexts.{IsRefused, IsNotRefused, Makes, StopsAt}
use Rattle.text_fetch.specs.Fetches.{AreEachRead, AreFetched, IsScriptRead}
use Rattle.text_fetch.specs.Runs.{scripts_told}

then_then : {A B C : Type 0} (t : FromTexts A) (f : A → FromTexts B) (g : B → FromTexts C)
    → told_then (told_then t f) g ≡ told_then t (λ x. told_then (f x) g)
then_then Untold f g = refl
then_then (Gives x) f g = refl
then_then (Refuses n fault) f g = refl

then_same : {A B : Type 0} (t : FromTexts A) (f g : A → FromTexts B) → ((x : A) → f x ≡ g x)
    → told_then t f ≡ told_then t g
then_same Untold f g h = refl
then_same (Gives x) f g h = h x
then_same (Refuses n fault) f g h = refl

pub scripts_told-append : (held : Held) (plan : PlanFields) (done : List Script) (xs ys : List (List ℕ))
    → scripts_told held plan done (xs ++ ys)
    ≡ told_then (scripts_told held plan done xs) (λ more. scripts_told held plan more ys)
scripts_told-append held plan done [] ys = refl
scripts_told-append held plan done (name ∷ xs) ys =
    then_same (text_told (length done + 2) (script_of plan (length done)) (held name)) _ _
    (λ script. scripts_told-append held plan (done ++ script ∷ []) xs ys)
    ∙ sym (then_then (text_told (length done + 2) (script_of plan (length done)) (held name))
    (λ script. scripts_told held plan (done ++ script ∷ []) xs) (λ more. scripts_told held plan more ys))

-- where one thing is given and another comes of it, the other is given
pub given_then : {A B : Type 0} (x : A) (y : B) (t : FromTexts A) (f : A → FromTexts B) → IsGiven x t → IsGiven y (f x)
    → IsGiven y (told_then t f)
given_then x y Untold f h k = tt
given_then x y (Gives z) f h k = subst (λ (w : _). IsGiven y (f w)) (sym h) k
given_then x y (Refuses n fault) f h k = absurd h

refused_then : {A B : Type 0} (x : A) (n : ℕ) (fault : Fault) (t : FromTexts A) (f : A → FromTexts B) → IsGiven x t
    → IsRefused n fault (f x) → IsRefused n fault (told_then t f)
refused_then x n fault Untold f h k = tt
refused_then x n fault (Gives z) f h k = subst (λ (w : _). IsRefused n fault (f w)) (sym h) k
refused_then x n fault (Refuses m other) f h k = absurd h

-- a stop behind what is given
pub stops_then : {A B : Type 0} (x : A) (stop : Stop) (t : FromTexts A) (f : A → FromTexts B) → IsGiven x t
    → StopsAt stop (f x) → StopsAt stop (told_then t f)
stops_then x (stops.Refused text line cause) t f h k =
    refused_then x text (record { line = line; cause = cause }) t f h k
stops_then x stops.ShelfFault t f h k = tt
stops_then x stops.NoMemory t f h k = tt

refused_first : {A B : Type 0} (n : ℕ) (fault : Fault) (t : FromTexts A) (f : A → FromTexts B) → IsRefused n fault t
    → IsRefused n fault (told_then t f)
refused_first n fault Untold f h = tt
refused_first n fault (Gives z) f h = absurd h
refused_first n fault (Refuses m other) f h = h

-- a stop at the first step
pub stops_first : {A B : Type 0} (stop : Stop) (t : FromTexts A) (f : A → FromTexts B) → StopsAt stop t
    → StopsAt stop (told_then t f)
stops_first (stops.Refused text line cause) t f h = refused_first text (record { line = line; cause = cause }) t f h
stops_first stops.ShelfFault t f h = tt
stops_first stops.NoMemory t f h = tt

-- where something is given, nothing is refused
pub given_free : {A : Type 0} (x : A) (t : FromTexts A) → IsGiven x t → IsNotRefused t
given_free x Untold h = tt
given_free x (Gives y) h = tt
given_free x (Refuses n fault) h = h

-- where something is given and nothing that comes of it is refused, nothing is
pub free_then : {A B : Type 0} (x : A) (t : FromTexts A) (f : A → FromTexts B) → IsGiven x t → IsNotRefused (f x)
    → IsNotRefused (told_then t f)
free_then x Untold f h k = tt
free_then x (Gives z) f h k = subst (λ (w : _). IsNotRefused (f w)) (sym h) k
free_then x (Refuses m other) f h k = absurd h

-- ---- the scripts so far

-- so many scripts are read, as far as the texts are told
pub record AreRead (held : Held) (plan : PlanFields) (names : List (List ℕ)) (i : ℕ) (done : List Script) : Type 0 where
  pub count : length done ≡ i
  pub given : IsGiven done (scripts_told held plan [] (take i names))

one_script : (held : Held) (plan : PlanFields) (done : List Script) (i : ℕ) (name : List ℕ) (script : Script)
    → length done ≡ i → IsGiven script (text_told (i + 2) (script_of plan i) (held name))
    → IsGiven (done ++ script ∷ []) (scripts_told held plan done (name ∷ []))
one_script held plan done i name script count h =
    given_then script (done ++ script ∷ []) (text_told (length done + 2) (script_of plan (length done)) (held name))
    (λ s. Gives (done ++ s ∷ [])) (rw count h) refl

-- a script more is read behind those that are read so far
pub read_more : (held : Held) (plan : PlanFields) (names : List (List ℕ)) (i : ℕ) (done : List Script) (name : List ℕ)
    (script : Script) → i < length names → name ≡ get_or names i [] → AreRead held plan names i done
    → IsGiven script (text_told (i + 2) (script_of plan i) (held name))
    → AreRead held plan names (i + 1) (done ++ script ∷ [])
read_more held plan names i done name script lt e h more = record {
  count = omega (arith, length-append done (script ∷ []), h.count);
  given =
      let front : take (i + 1) names ≡ take i names ++ name ∷ [] =
      take_more names i [] lt ∙ ap (λ (n : List ℕ). take i names ++ n ∷ []) (sym e) in
      rw (front, scripts_told-append held plan [] (take i names) (name ∷ []))
      (given_then done (done ++ script ∷ []) (scripts_told held plan [] (take i names))
      (λ all. scripts_told held plan all (name ∷ [])) h.given
      (one_script held plan done i name script h.count more));
}

-- where the scripts before it are read, what stops at the next script's text stops at the scripts
pub stops_here : (held : Held) (plan : PlanFields) (names : List (List ℕ)) (i : ℕ) (done : List Script) (name : List ℕ)
    (stop : Stop) → i < length names → name ≡ get_or names i [] → AreRead held plan names i done
    → StopsAt stop (text_told (i + 2) (script_of plan i) (held name)) → StopsAt stop (scripts_told held plan [] names)
stops_here held plan names i done name stop lt e h stopped =
    let rest : drop i names ≡ name ∷ drop (i + 1) names =
    rw add-one (drop-cons names i [] lt) ∙ ap (λ (n : List ℕ). n ∷ drop (i + 1) names) (sym e) in
    let whole : names ≡ take i names ++ (name ∷ drop (i + 1) names) =
    sym (take-append-drop i names) ∙ ap (λ (r : List (List ℕ)). take i names ++ r) rest in
    subst (λ (all : List (List ℕ)). StopsAt stop (scripts_told held plan [] all)) (sym whole)
    (rw (scripts_told-append held plan [] (take i names) (name ∷ drop (i + 1) names))
    (stops_then done stop (scripts_told held plan [] (take i names))
    (λ all. scripts_told held plan all (name ∷ drop (i + 1) names)) h.given
    (stops_first stop (text_told (length done + 2) (script_of plan (length done)) (held name))
    (λ script. scripts_told held plan (done ++ script ∷ []) (drop (i + 1) names)) (rw h.count stopped))))

-- where so many scripts are read as there are names, these are the scripts
pub all_read : (held : Held) (plan : PlanFields) (names : List (List ℕ)) (i : ℕ) (done : List Script) → length names ≤ i
    → AreRead held plan names i done → IsGiven done (scripts_told held plan [] names)
all_read held plan names i done le h =
    subst (λ (all : List (List ℕ)). IsGiven done (scripts_told held plan [] all)) (take_all i names le) h.given

-- before the first name, no script is read
pub none_read : (held : Held) (plan : PlanFields) (names : List (List ℕ)) → AreRead held plan names 0 []
none_read held plan names = record { count = refl; given = refl }

-- ---- texts that are fetched in turn

-- the first of the names, as many as there are texts
pub front_fetched : (held : Held) (names : List (List ℕ)) (texts : List (Vec ℕ)) → AreFetched held names texts
    → AreFetched held (take (length texts) names) texts
front_fetched held names texts h = record {
  few = omega (arith, length-take-le (length texts) names h.few);
  each = λ b d lt. rw (get_or-take (length texts) names b [] lt) (h.each b d lt);
}

-- ---- what is read of them

some_text : (texts : List (Vec ℕ)) (i : ℕ) → i < length texts → Vec ℕ
some_text [] i lt = absurd (omega (arith, lt))
some_text (text ∷ texts) i lt = text

-- the next of those that are each read: that of text i
pub record IsNextRead (plan : PlanFields) (texts : List (Vec ℕ)) (i : ℕ) (read : Result Script Stop) : Type 0 where
  pub within : i < length texts
  pub text : Vec ℕ
  pub is : IsScriptRead plan i (slice_index_or texts i text).items read

-- where each text is read as its box's script, the next that is read is that of the next text
pub next_read : (plan : PlanFields) (texts : List (Vec ℕ)) (before rest behind : List (Result Script Stop))
    (next read : Result Script Stop) → AreEachRead plan texts (before ++ rest) → length (before ++ rest) ≡ length texts
    → rest ≡ next ∷ behind → next ≡ read → IsNextRead plan texts (length before) read
next_read plan texts before rest behind next read each count split same =
    let i : ℕ = length before in
    let whole : before ++ rest ≡ before ++ read ∷ behind =
    ap (λ (rs : List (Result Script Stop)). before ++ rs) split
    ∙ ap (λ (r : Result Script Stop). before ++ r ∷ behind) same in
    let within : i < length texts = omega (arith, count, length-append before (read ∷ behind), ap length whole) in
    let text : Vec ℕ = some_text texts i within in
    let here : get_or (before ++ rest) i read ≡ read =
    ap (λ (rs : List (Result Script Stop)). get_or rs i read) whole ∙ get_or-append_seam before read behind read in
    record {
      within = within;
      text = text;
      is = subst (λ (r : Result Script Stop). IsScriptRead plan i (slice_index_or texts i text).items r) here
          (each i text read within);
    }

-- what the names' texts are told to be, where these were fetched and read
pub told_here : (held : Held) (plan : PlanFields) (names : List (List ℕ)) (texts : List (Vec ℕ)) (i : ℕ)
    (read : Result Script Stop) (d : Vec ℕ) → AreFetched held names texts → i < length texts
    → IsScriptRead plan i (slice_index_or texts i d).items read
    → Makes (λ script. script) read (text_told (i + 2) (script_of plan i) (held (get_or names i [])))
told_here held plan names texts i read d fetched lt is = is.told (held (get_or names i [])) (fetched.each i d lt)

-- a stop at the first of the names is a stop at all
pub stops_front : (held : Held) (plan : PlanFields) (names : List (List ℕ)) (n : ℕ) (stop : Stop)
    → StopsAt stop (scripts_told held plan [] (take n names)) → StopsAt stop (scripts_told held plan [] names)
stops_front held plan names n stop h =
    subst (λ (all : List (List ℕ)). StopsAt stop (scripts_told held plan [] all)) (take-append-drop n names)
    (rw (scripts_told-append held plan [] (take n names) (drop n names))
    (stops_first stop (scripts_told held plan [] (take n names))
    (λ all. scripts_told held plan all (drop n names)) h))

-- ---- each is its box's script

own_behind : (plan : PlanFields) (k : ℕ) (xs : List Script) (script : Script)
    → ((b : ℕ) (s : Script) → slice_get xs b ≡ Some s → IsScriptOf plan (k + b) s)
    → IsScriptOf plan (k + length xs) script
    → (b : ℕ) (s : Script) → slice_get (xs ++ script ∷ []) b ≡ Some s → IsScriptOf plan (k + b) s
own_behind plan k [] script own last zero s e = let same : script ≡ s =
    cc in subst (λ (t : Script). IsScriptOf plan (k + 0) t) same last
own_behind plan k [] script own last (suc b) s e = absurd cc
own_behind plan k (x ∷ xs) script own last zero s e = own zero s e
own_behind plan k (x ∷ xs) script own last (suc b) s e =
    let moved : (k + 1) + b ≡ k + suc b = omega arith in
    let ended : k + length (x ∷ xs) ≡ (k + 1) + length xs = omega arith in
    subst (λ (n : ℕ). IsScriptOf plan n s) moved
    (own_behind plan (k + 1) xs script
    (λ c t f. let shifted : k + suc c ≡ (k + 1) + c =
    omega arith in subst (λ (n : ℕ). IsScriptOf plan n t) shifted (own (suc c) t f))
    (subst (λ (n : ℕ). IsScriptOf plan n script) ended last) b s e)

-- scripts that are each its box's are so with the script of the next box behind them
pub own_more : (plan : PlanFields) (done : List Script) (script : Script)
    → ((b : ℕ) (s : Script) → slice_get done b ≡ Some s → IsScriptOf plan b s) → IsScriptOf plan (length done) script
    → (b : ℕ) (s : Script) → slice_get (done ++ script ∷ []) b ≡ Some s → IsScriptOf plan b s
own_more plan done script own last b s e =
    let here =
    λ (c : ℕ) (t : Script) (f : slice_get done c ≡ Some t).
    (let shifted : c ≡ 0 + c = omega arith in subst (λ (n : ℕ). IsScriptOf plan n t) shifted (own c t f)) in
    let ended : length done ≡ 0 + length done = omega arith in
    let back : 0 + b ≡ b = omega arith in
    subst (λ (n : ℕ). IsScriptOf plan n s) back
    (own_behind plan 0 done script here (subst (λ (n : ℕ). IsScriptOf plan n script) ended last) b s e)

-- the next name
pub name_at : (xs : List (Bor (List ℕ))) (i : ℕ) (none : Bor (List ℕ)) → i < length xs
    → (get_or xs i none).now ≡ get_or (map (λ name. name.now) xs) i []
name_at [] i none lt = absurd (omega arith)
name_at (y ∷ ys) zero none lt = refl
name_at (y ∷ ys) (suc i) none lt = name_at ys i none (omega arith)
