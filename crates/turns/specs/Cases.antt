-- Nine cases on a page of 2 lines and 5 columns that was just started: what a delivery of bytes answers and leaves, and what a reply and a
-- picture then answer and write.
use Rattle.std.specs.Prelude.{◌≡◌, ℕ, Bool, true, false, List, [], ◌∷◌, replicate, Some, None, Option}
use Rattle.refusal.specs.Table.{Answer, accepted}
use Rattle.panel.specs.Grids.{Grid}
use Rattle.panel.specs.declared.cell.Cell.{Cell}
use Rattle.reader.specs.Steps.{rest}
use Rattle.control.specs.declared.function.Report.{Report}
use Rattle.control.specs.declared.function.Report.TheVariants.{Position}
use Rattle.control.specs.Renditions.{rendition_of}
use Rattle.page.specs.Plain.{Plain, page_refuses, settled, started_page}
use Rattle.turns.specs.Turns.{deliver, reply, picture, turn}

abbrev pub shown : ℕ → ℕ → Cell
shown code rendition = record { code = code; rendition = rendition }

abbrev pub blank : Cell
blank = shown 0 0

abbrev pub small_grid : List Cell → Grid
small_grid cs = record { lines = 2; columns = 5; cells = cs }

abbrev pub small_page : Plain
small_page = started_page (small_grid (replicate 10 blank))

pub record Case : Type 0 where
  pub bytes : List ℕ
  pub taken : ℕ
  pub cells : List Cell
  pub line : ℕ
  pub column : ℕ
  pub rendition : ℕ
  pub combination : Bool
  pub owed : Option Report
  pub reply_says : Answer ℕ
  pub reply_bytes : List ℕ
  pub picture_says : Answer ℕ
  pub picture_bytes : List ℕ

-- the whole page that a case names; it has no stop, and its reader is at rest
abbrev pub page_in : Case → Plain
page_in c = record {
  started = true;
  sheet = record {
    state = record {
      lines = 2;
      columns = 5;
      line = c.line;
      column = c.column;
      rendition = rendition_of c.rendition;
      column_stops = replicate 5 false;
      line_stops = replicate 2 false;
      modes = record { insertion = false; combination = c.combination };
      standing = rest;
      owed = c.owed;
    };
    grid = small_grid c.cells;
  };
}

pub record Holds (c : Case) : Type 0 where
  pub delivers : turn small_page (deliver c.bytes) ≡ record { says = accepted c.taken; after = page_in c; writes = [] }
  pub replies : turn (page_in c) (reply 64) ≡ record { says = c.reply_says; after = settled (page_in c); writes = c.reply_bytes }
  pub pictures : turn (page_in c) (picture 64) ≡ record { says = c.picture_says; after = page_in c; writes = c.picture_bytes }

abbrev pub AllHold : List Case → Type 0
AllHold [] = Unit {0}
AllHold (c ∷ cs) = Holds c × AllHold cs

abbrev pub cases : List Case
cases =
    -- a character past the last column takes the place of the last
    record {
      bytes = 0x41 ∷ 0x42 ∷ 0x43 ∷ 0x44 ∷ 0x45 ∷ 0x46 ∷ [];
      taken = 6;
      cells = shown 0x41 0 ∷ shown 0x42 0 ∷ shown 0x43 0 ∷ shown 0x44 0 ∷ shown 0x46 0 ∷ blank ∷ blank ∷ blank ∷ blank ∷ blank ∷ [];
      line = 1;
      column = 5;
      rendition = 0;
      combination = false;
      owed = None;
      reply_says = page_refuses 5;
      reply_bytes = [];
      picture_says = accepted 31;
      picture_bytes = 0x1B ∷ 0x63 ∷ 0x1B ∷ 0x5B ∷ 0x31 ∷ 0x3B ∷ 0x31 ∷ 0x48 ∷ 0x41 ∷ 0x42 ∷ 0x43 ∷ 0x44 ∷ 0x46 ∷ 0x1B ∷ 0x5B ∷ 0x33 ∷ 0x67 ∷ 0x1B ∷ 0x5B ∷ 0x34 ∷ 0x67 ∷ 0x1B ∷ 0x5B ∷ 0x30 ∷ 0x6D ∷ 0x1B ∷ 0x5B ∷ 0x31 ∷ 0x3B ∷ 0x35 ∷ 0x48 ∷ [];
    } ∷
    -- a line or column 0 is 1
    record {
      bytes = 0x1B ∷ 0x5B ∷ 0x30 ∷ 0x3B ∷ 0x30 ∷ 0x48 ∷ [];
      taken = 6;
      cells = blank ∷ blank ∷ blank ∷ blank ∷ blank ∷ blank ∷ blank ∷ blank ∷ blank ∷ blank ∷ [];
      line = 1;
      column = 1;
      rendition = 0;
      combination = false;
      owed = None;
      reply_says = page_refuses 5;
      reply_bytes = [];
      picture_says = accepted 20;
      picture_bytes = 0x1B ∷ 0x63 ∷ 0x1B ∷ 0x5B ∷ 0x33 ∷ 0x67 ∷ 0x1B ∷ 0x5B ∷ 0x34 ∷ 0x67 ∷ 0x1B ∷ 0x5B ∷ 0x30 ∷ 0x6D ∷ 0x1B ∷ 0x5B ∷ 0x31 ∷ 0x3B ∷ 0x31 ∷ 0x48 ∷ [];
    } ∷
    -- a line feed keeps the column, and on the last line moves the page up
    record {
      bytes = 0x41 ∷ 0x0A ∷ 0x0A ∷ [];
      taken = 3;
      cells = blank ∷ blank ∷ blank ∷ blank ∷ blank ∷ blank ∷ blank ∷ blank ∷ blank ∷ blank ∷ [];
      line = 2;
      column = 2;
      rendition = 0;
      combination = false;
      owed = None;
      reply_says = page_refuses 5;
      reply_bytes = [];
      picture_says = accepted 20;
      picture_bytes = 0x1B ∷ 0x63 ∷ 0x1B ∷ 0x5B ∷ 0x33 ∷ 0x67 ∷ 0x1B ∷ 0x5B ∷ 0x34 ∷ 0x67 ∷ 0x1B ∷ 0x5B ∷ 0x30 ∷ 0x6D ∷ 0x1B ∷ 0x5B ∷ 0x32 ∷ 0x3B ∷ 0x32 ∷ 0x48 ∷ [];
    } ∷
    -- inserted cells push others out of the line
    record {
      bytes = 0x41 ∷ 0x42 ∷ 0x43 ∷ 0x44 ∷ 0x45 ∷ 0x1B ∷ 0x5B ∷ 0x31 ∷ 0x3B ∷ 0x32 ∷ 0x48 ∷ 0x1B ∷ 0x5B ∷ 0x32 ∷ 0x40 ∷ [];
      taken = 15;
      cells = shown 0x41 0 ∷ blank ∷ blank ∷ shown 0x42 0 ∷ shown 0x43 0 ∷ blank ∷ blank ∷ blank ∷ blank ∷ blank ∷ [];
      line = 1;
      column = 1;
      rendition = 0;
      combination = false;
      owed = None;
      reply_says = page_refuses 5;
      reply_bytes = [];
      picture_says = accepted 35;
      picture_bytes = 0x1B ∷ 0x63 ∷ 0x1B ∷ 0x5B ∷ 0x31 ∷ 0x3B ∷ 0x31 ∷ 0x48 ∷ 0x41 ∷ 0x1B ∷ 0x5B ∷ 0x31 ∷ 0x3B ∷ 0x34 ∷ 0x48 ∷ 0x42 ∷ 0x43 ∷ 0x1B ∷ 0x5B ∷ 0x33 ∷ 0x67 ∷ 0x1B ∷ 0x5B ∷ 0x34 ∷ 0x67 ∷ 0x1B ∷ 0x5B ∷ 0x30 ∷ 0x6D ∷ 0x1B ∷ 0x5B ∷ 0x31 ∷ 0x3B ∷ 0x31 ∷ 0x48 ∷ [];
    } ∷
    -- a rendition begins anew with each sequence
    record {
      bytes = 0x1B ∷ 0x5B ∷ 0x31 ∷ 0x6D ∷ 0x1B ∷ 0x5B ∷ 0x34 ∷ 0x6D ∷ 0x41 ∷ [];
      taken = 9;
      cells = shown 0x41 6 ∷ blank ∷ blank ∷ blank ∷ blank ∷ blank ∷ blank ∷ blank ∷ blank ∷ blank ∷ [];
      line = 1;
      column = 2;
      rendition = 6;
      combination = false;
      owed = None;
      reply_says = page_refuses 5;
      reply_bytes = [];
      picture_says = accepted 35;
      picture_bytes = 0x1B ∷ 0x63 ∷ 0x1B ∷ 0x5B ∷ 0x31 ∷ 0x3B ∷ 0x31 ∷ 0x48 ∷ 0x1B ∷ 0x5B ∷ 0x30 ∷ 0x3B ∷ 0x34 ∷ 0x6D ∷ 0x41 ∷ 0x1B ∷ 0x5B ∷ 0x33 ∷ 0x67 ∷ 0x1B ∷ 0x5B ∷ 0x34 ∷ 0x67 ∷ 0x1B ∷ 0x5B ∷ 0x30 ∷ 0x3B ∷ 0x34 ∷ 0x6D ∷ 0x1B ∷ 0x5B ∷ 0x31 ∷ 0x3B ∷ 0x32 ∷ 0x48 ∷ [];
    } ∷
    -- unless renditions are combined
    record {
      bytes = 0x1B ∷ 0x5B ∷ 0x32 ∷ 0x31 ∷ 0x68 ∷ 0x1B ∷ 0x5B ∷ 0x31 ∷ 0x6D ∷ 0x1B ∷ 0x5B ∷ 0x34 ∷ 0x6D ∷ 0x41 ∷ [];
      taken = 14;
      cells = shown 0x41 7 ∷ blank ∷ blank ∷ blank ∷ blank ∷ blank ∷ blank ∷ blank ∷ blank ∷ blank ∷ [];
      line = 1;
      column = 2;
      rendition = 7;
      combination = true;
      owed = None;
      reply_says = page_refuses 5;
      reply_bytes = [];
      picture_says = accepted 44;
      picture_bytes = 0x1B ∷ 0x63 ∷ 0x1B ∷ 0x5B ∷ 0x31 ∷ 0x3B ∷ 0x31 ∷ 0x48 ∷ 0x1B ∷ 0x5B ∷ 0x30 ∷ 0x3B ∷ 0x31 ∷ 0x3B ∷ 0x34 ∷ 0x6D ∷ 0x41 ∷ 0x1B ∷ 0x5B ∷ 0x33 ∷ 0x67 ∷ 0x1B ∷ 0x5B ∷ 0x34 ∷ 0x67 ∷ 0x1B ∷ 0x5B ∷ 0x32 ∷ 0x31 ∷ 0x68 ∷ 0x1B ∷ 0x5B ∷ 0x30 ∷ 0x3B ∷ 0x31 ∷ 0x3B ∷ 0x34 ∷ 0x6D ∷ 0x1B ∷ 0x5B ∷ 0x31 ∷ 0x3B ∷ 0x32 ∷ 0x48 ∷ [];
    } ∷
    -- a delivery stops behind a request
    record {
      bytes = 0x1B ∷ 0x5B ∷ 0x36 ∷ 0x6E ∷ 0x41 ∷ [];
      taken = 4;
      cells = blank ∷ blank ∷ blank ∷ blank ∷ blank ∷ blank ∷ blank ∷ blank ∷ blank ∷ blank ∷ [];
      line = 1;
      column = 1;
      rendition = 0;
      combination = false;
      owed = Some Position;
      reply_says = accepted 6;
      reply_bytes = 0x1B ∷ 0x5B ∷ 0x31 ∷ 0x3B ∷ 0x31 ∷ 0x52 ∷ [];
      picture_says = page_refuses 4;
      picture_bytes = [];
    } ∷
    -- a byte that does not fit ends a sequence, and acts
    record {
      bytes = 0x1B ∷ 0x5B ∷ 0x0A ∷ 0x41 ∷ [];
      taken = 4;
      cells = blank ∷ blank ∷ blank ∷ blank ∷ blank ∷ shown 0x41 0 ∷ blank ∷ blank ∷ blank ∷ blank ∷ [];
      line = 2;
      column = 2;
      rendition = 0;
      combination = false;
      owed = None;
      reply_says = page_refuses 5;
      reply_bytes = [];
      picture_says = accepted 27;
      picture_bytes = 0x1B ∷ 0x63 ∷ 0x1B ∷ 0x5B ∷ 0x32 ∷ 0x3B ∷ 0x31 ∷ 0x48 ∷ 0x41 ∷ 0x1B ∷ 0x5B ∷ 0x33 ∷ 0x67 ∷ 0x1B ∷ 0x5B ∷ 0x34 ∷ 0x67 ∷ 0x1B ∷ 0x5B ∷ 0x30 ∷ 0x6D ∷ 0x1B ∷ 0x5B ∷ 0x32 ∷ 0x3B ∷ 0x32 ∷ 0x48 ∷ [];
    } ∷
    -- a picture writes a rendition where it changes
    record {
      bytes = 0x41 ∷ 0x1B ∷ 0x5B ∷ 0x31 ∷ 0x6D ∷ 0x42 ∷ [];
      taken = 6;
      cells = shown 0x41 0 ∷ shown 0x42 1 ∷ blank ∷ blank ∷ blank ∷ blank ∷ blank ∷ blank ∷ blank ∷ blank ∷ [];
      line = 1;
      column = 3;
      rendition = 1;
      combination = false;
      owed = None;
      reply_says = page_refuses 5;
      reply_bytes = [];
      picture_says = accepted 36;
      picture_bytes = 0x1B ∷ 0x63 ∷ 0x1B ∷ 0x5B ∷ 0x31 ∷ 0x3B ∷ 0x31 ∷ 0x48 ∷ 0x41 ∷ 0x1B ∷ 0x5B ∷ 0x30 ∷ 0x3B ∷ 0x31 ∷ 0x6D ∷ 0x42 ∷ 0x1B ∷ 0x5B ∷ 0x33 ∷ 0x67 ∷ 0x1B ∷ 0x5B ∷ 0x34 ∷ 0x67 ∷ 0x1B ∷ 0x5B ∷ 0x30 ∷ 0x3B ∷ 0x31 ∷ 0x6D ∷ 0x1B ∷ 0x5B ∷ 0x31 ∷ 0x3B ∷ 0x33 ∷ 0x48 ∷ [];
    } ∷
    []

abbrev pub CasesHold : Type 0
CasesHold = AllHold cases
