-- The train graph of a journal is drawn.
use Rattle.std.specs.Prelude.{◌≡◌, ℕ, List}
use Rattle.line_plan.specs.Plans.{PlanFields}
use Rattle.line_law.specs.declared.call.Entry.{Entry}
use Rattle.text_fetch.specs.FromTexts.{Held}
use Rattle.mark_up.specs.Documents.{IsDocument}
use Rattle.graph_scene.specs.Scenes.{scene_of}
use Rattle.graph_picture.specs.Pictures.{picture_text}
use Rattle.explained_texts.specs.Journals.{IsJournalOf}

-- What comes of `graph`: of the plan and the legal journal that the shelf tells under these names, a document that
-- draws what a train graph shows of it.
pub record IsGraphOf (held : Held) (plan_name journal_name text : List ℕ) : Type 0 where
  pub plan : PlanFields
  pub entries : List Entry
  pub journal : IsJournalOf held plan_name journal_name plan entries
  pub document : IsDocument text
  pub picture : text ≡ picture_text plan (scene_of plan entries)
