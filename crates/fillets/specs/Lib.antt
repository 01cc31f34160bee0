pub mod Fillets
