pub mod LaterWords
pub mod PremisesMet
pub mod AfterSend
pub mod AfterStripe
pub mod AfterSendMet
pub mod AfterStripeMet
pub mod JoinWhole
