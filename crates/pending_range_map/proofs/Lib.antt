mod Registering
