-- Worked examples of the table and the text.
use Rattle.std.specs.Prelude.{◌≡◌, [], ◌++◌}
use lib.Chars.{codes}
use Rattle.link_reports.specs.Lines.{line_end}
use Rattle.lane_words.specs.Gathered.{places}
use Rattle.lane_words.specs.GatheredLaws.{two_epochs}
use Rattle.gather_commands.specs.Table.{gathered_text, places_table}

pub record WorkedTables : Type 0 where
  pub none : places_table (places []) ≡ codes "word,group,index,why" ++ line_end
  pub two : places_table (places two_epochs)
      ≡ codes "word,group,index,why" ++ (line_end ++ (codes "0,500,0,-" ++ (line_end ++ (codes "2,2644,0,-" ++ (line_end ++ (codes "3,2644,1,lost" ++ (line_end ++ (codes "4,9000,0,-" ++ (line_end ++ (codes "4,9000,0,end" ++ line_end))))))))))
  pub text : gathered_text two_epochs ≡ codes "words 4" ++ (line_end ++ (codes "epochs 2" ++ line_end))
