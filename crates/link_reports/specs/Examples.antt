-- The texts of small words files: one packet of 60 bytes between two idles, whole, with one bit inverted, and with a Bad word;
-- and the file with no word. And the other lines, each once.
use Rattle.std.specs.Prelude.{ℕ, ◌≡◌, List, [], ◌++◌, Some, None}
use lib.Chars.{codes}
use Rattle.receive_model.specs.Events.{word_events, shown_spans}
use Rattle.receive_model.specs.Rows.{channel0, whole, flipped, bad}
use Rattle.lk_base.specs.declared.word.RxWord.{RxWord}
use Rattle.lock_model.specs.declared.types.LaneReport.{LaneReport}
use Rattle.report_model.specs.declared.counts.Missing.{Missing}
use Rattle.link_reports.specs.Lines.{line_end, sent_line, slots_line, got_line, spans_line, dropped_line, held_line, count_line, lane_line, accidents_line, missing_line, resend_line, end_line}
use Rattle.link_reports.specs.Drops.{drop_counts}
use Rattle.link_reports.specs.Table.{span_table}

-- the span table of a words file
abbrev pub table_of : List RxWord → List ℕ
table_of words = span_table (shown_spans (word_events channel0 words))

-- the line of its drops
abbrev pub drops_of : List RxWord → List ℕ
drops_of words = dropped_line (drop_counts (word_events channel0 words))

abbrev pub line : List ℕ → List ℕ → List ℕ
line text rest = text ++ (line_end ++ rest)

-- the heading, and then these rows
abbrev pub under_heading : List ℕ → List ℕ
under_heading rows = line (codes "after_group,after_index,before_group,before_index,why") rows

-- a lane that locks once and stays, one that lost its lock and came back, and one that never locks
abbrev pub steady : LaneReport
steady = record { locks = 1; first = Some 6432; lost = 0; unframed = 0; bad = 0; sync = 0; state = 0; diag = 0 }

abbrev pub darkened : LaneReport
darkened = record { locks = 2; first = Some 6432; lost = 1; unframed = 3; bad = 15; sync = 4; state = 5; diag = 6 }

abbrev pub silent : LaneReport
silent = record { locks = 0; first = None; lost = 0; unframed = 2; bad = 0; sync = 0; state = 0; diag = 0 }

-- the first packet of channel 1, which meets the second span
abbrev pub lost_packet : Missing
lost_packet = record { channel = 1; number = 0; first = 112; last = 185; span = 1 }

pub record WorkedTexts : Type 0 where
  pub whole_table : table_of whole ≡ under_heading (line (codes "-,-,0,1,start") (line (codes "0,11,-,-,end") []))
  pub whole_drops : drops_of whole ≡ line (codes "dropped bad=0 crc=0 protocol=0 lost=0 end=0 toolong=0 unlisted=0 sender=0") []
  pub flipped_table : table_of flipped ≡ under_heading (line (codes "-,-,0,1,start") (line (codes "0,1,0,11,crc") (line (codes "0,11,-,-,end") [])))
  pub flipped_drops : drops_of flipped ≡ line (codes "dropped bad=0 crc=1 protocol=0 lost=0 end=0 toolong=0 unlisted=0 sender=0") []
  pub bad_table : table_of bad ≡ under_heading (line (codes "-,-,0,1,start") (line (codes "0,1,0,11,bad") (line (codes "0,11,-,-,end") [])))
  pub bad_drops : drops_of bad ≡ line (codes "dropped bad=1 crc=0 protocol=0 lost=0 end=0 toolong=0 unlisted=0 sender=0") []
  pub no_words_table : table_of [] ≡ under_heading (line (codes "-,-,-,-,start") [])
  pub got : got_line 0 1 60 ≡ line (codes "got channel=0 packets=1 bytes=60") []
  pub spans : spans_line 2 ≡ line (codes "spans 2") []
  pub sent : sent_line (record { channel = 0; packets = 1; bytes = 60; left = 2 }) ≡ line (codes "sent channel=0 packets=1 bytes=60 left=2") []
  pub slots : slots_line 12 ≡ line (codes "slots 12") []
  pub held : held_line 2 ≡ line (codes "held channel=2") []
  pub count : count_line (codes "samples") 7 ≡ line (codes "samples 7") []
  pub lines : count_line (codes "lines") 13 ≡ line (codes "lines 13") []
  pub bytes : count_line (codes "bytes") 108 ≡ line (codes "bytes 108") []
  pub resent : resend_line 168 3 2 4 ≡ line (codes "resend pieces=168 accepted=3 acknowledged=2 sent=4") []
  pub end_a : end_line 97 1 0 0 7 ≡ line (codes "end a channel=1 packets=0 bytes=0 peak=7") []
  pub end_b : end_line 98 261 1 40 32 ≡ line (codes "end b channel=261 packets=1 bytes=40 peak=32") []
  pub steady_lane : lane_line 0 steady ≡ line (codes "lane 0 locks=1 first=6432 lost=0 unframed=0 bad=0 sync=0 state=0 diag=0") []
  pub darkened_lane : lane_line 3 darkened ≡ line (codes "lane 3 locks=2 first=6432 lost=1 unframed=3 bad=15 sync=4 state=5 diag=6") []
  pub silent_lane : lane_line 1 silent ≡ line (codes "lane 1 locks=0 first=- lost=0 unframed=2 bad=0 sync=0 state=0 diag=0") []
  pub accidents : accidents_line (record { locks = 1; groups = 2; stretches = 3 }) ≡ line (codes "accidents locks=1 groups=2 stretches=3") []
  pub missing : missing_line lost_packet ≡ line (codes "missing channel=1 packet=0 first=112 last=185 span=1") []
